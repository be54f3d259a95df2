-- What the calls of the host ensure gives what the trait asks.
use Rattle.std.proofs.Common.{length, take, Some, None, inl, inr, refl, ap, arith}
use Rattle.std.proofs.lemmas.Bool.{false≢true}
use Rattle.kh_io.specs.Call.{Take, Give}
use Rattle.kh_io.specs.Memory.{is_listed, take_moves, take_len}
use Rattle.kh_io.specs.Recording.{given_in}
use Rattle.kh_io.proofs.Recordings.{given_push}
use Rattle.kh_io.proofs.Framing.{caused, not_caused}
use Rattle.kh_io.proofs.Steps.{elapses, three, stays_quiet, stays_same, quiet_take, quiet_give, time_noted, time_stands, sink_stays, input_stays, gains_noted, gains_stopped, one_more_rose, one_more_stands, taken_off, none_left, nothing_added, stamp_grows}
use Rattle.kh_io.proofs.memory.MemoryHostHost.TheImpl.Goals as goal

pub take-tells : goal.take-tells
take-tells c =
    elim (three c.args.self.now.tape (take_moves c.args.self.now (length c.args.into.now)) (is_listed c.args.self.now) c.ensures.past c.ensures.listed c.ensures.done) [
      | inl p ↦ rw (p.0, p.1) (record {
        within = tt;
        taken = tt;
        end = tt;
        none_taken = refl;
        files = λ file lt. stays_same c.args.self.now.tape.first c.args.self.now.tape.calls c.args.self.now.tape.calls file refl;
        time = elapses _ _ (time_stands _ c.args.self.now.tape.first c.args.self.now.tape.calls);
        cause = caused refl (one_more_rose c.args.self.now.read_faults) (one_more_stands c.args.self.now.read_faults);
        sink = record {
          stamp = refl;
          sink = refl;
          writes = refl;
          disk = refl;
        };
        entry = gains_stopped c.args.self.now.tells c.args.self.now.tape.calls (Take (length c.new.into.now) None);
      })
      | inr q ↦ elim q [
        | inl l ↦ rw (l.0, l.1) (record {
          within = tt;
          taken = tt;
          end = tt;
          none_taken = input_stays c.args.self.now.tape.input c.args.self.now.tape.calls (Take (length c.new.into.now) None) refl;
          files = λ file lt. stays_quiet c.args.self.now.tape.first c.args.self.now.tape.calls (Take (length c.new.into.now) None) file (quiet_take file (length c.new.into.now) None);
          time = elapses _ _ (time_noted _ c.args.self.now.tape.first c.args.self.now.tape.calls (Take (length c.new.into.now) None));
          cause = caused refl (one_more_rose c.args.self.now.read_faults) (one_more_stands c.args.self.now.read_faults);
          sink = record {
            stamp = ap length (sink_stays c.args.self.now.tape.calls (Take (length c.new.into.now) None) refl);
            sink = sink_stays c.args.self.now.tape.calls (Take (length c.new.into.now) None) refl;
            writes = refl;
            disk = refl;
          };
          entry = gains_noted c.args.self.now.tells c.args.self.now.tape.calls (Take (length c.new.into.now) None);
        })
        | inr d ↦ rw (d.0, d.2) (record {
          within = omega arith;
          taken = taken_off c.args.self.now.tape.input c.args.self.now.tape.calls (length c.new.into.now) (take_len c.args.self.now.tape (length c.new.into.now)) c.new.into.now (omega arith) d.1;
          end = λ none some. none_left c.args.self.now.tape.input c.args.self.now.tape.calls (length c.new.into.now) none some;
          none_taken = tt;
          files = λ file lt. stays_quiet c.args.self.now.tape.first c.args.self.now.tape.calls (Take (length c.new.into.now) (Some (take (take_len c.args.self.now.tape (length c.new.into.now)) c.new.into.now))) file (quiet_take file (length c.new.into.now) (Some (take (take_len c.args.self.now.tape (length c.new.into.now)) c.new.into.now)));
          time = elapses _ _ (time_noted _ c.args.self.now.tape.first c.args.self.now.tape.calls (Take (length c.new.into.now) (Some (take (take_len c.args.self.now.tape (length c.new.into.now)) c.new.into.now))));
          cause = not_caused false≢true refl;
          sink = record {
            stamp = ap length (sink_stays c.args.self.now.tape.calls (Take (length c.new.into.now) (Some (take (take_len c.args.self.now.tape (length c.new.into.now)) c.new.into.now))) refl);
            sink = sink_stays c.args.self.now.tape.calls (Take (length c.new.into.now) (Some (take (take_len c.args.self.now.tape (length c.new.into.now)) c.new.into.now))) refl;
            writes = refl;
            disk = refl;
          };
          entry = gains_noted c.args.self.now.tells c.args.self.now.tape.calls (Take (length c.new.into.now) (Some (take (take_len c.args.self.now.tape (length c.new.into.now)) c.new.into.now)));
        })
      ]
    ]

pub give-tells : goal.give-tells
give-tells c =
    elim (three c.args.self.now.tape (length c.args.bytes.now) (is_listed c.args.self.now) c.ensures.past c.ensures.listed c.ensures.done) [
      | inl p ↦ rw (p.0, p.1) (record {
        within = tt;
        some = tt;
        added = tt;
        front_added = nothing_added (given_in c.args.self.now.tape.calls) c.args.bytes.now;
        files = λ file lt. stays_same c.args.self.now.tape.first c.args.self.now.tape.calls c.args.self.now.tape.calls file refl;
        time = elapses _ _ (time_stands _ c.args.self.now.tape.first c.args.self.now.tape.calls);
        cause = caused refl (one_more_rose c.args.self.now.write_faults) (one_more_stands c.args.self.now.write_faults);
        input = record {
          stamp = omega arith;
          input = refl;
          reads = refl;
          disk = refl;
        };
        entry = gains_stopped c.args.self.now.tells c.args.self.now.tape.calls (Give c.args.bytes.now None);
      })
      | inr q ↦ elim q [
        | inl l ↦ rw (l.0, l.1) (record {
          within = tt;
          some = tt;
          added = tt;
          front_added = rw (sink_stays c.args.self.now.tape.calls (Give c.args.bytes.now None) refl) (nothing_added (given_in c.args.self.now.tape.calls) c.args.bytes.now);
          files = λ file lt. stays_quiet c.args.self.now.tape.first c.args.self.now.tape.calls (Give c.args.bytes.now None) file (quiet_give file c.args.bytes.now None);
          time = elapses _ _ (time_noted _ c.args.self.now.tape.first c.args.self.now.tape.calls (Give c.args.bytes.now None));
          cause = caused refl (one_more_rose c.args.self.now.write_faults) (one_more_stands c.args.self.now.write_faults);
          input = record {
            stamp = stamp_grows c.args.self.now.tape.calls (Give c.args.bytes.now None);
            input = input_stays c.args.self.now.tape.input c.args.self.now.tape.calls (Give c.args.bytes.now None) refl;
            reads = refl;
            disk = refl;
          };
          entry = gains_noted c.args.self.now.tells c.args.self.now.tape.calls (Give c.args.bytes.now None);
        })
        | inr d ↦ rw (d.0, d.1) (record {
          within = omega arith;
          some = λ lt. lt;
          added = given_push c.args.self.now.tape.calls (Give c.args.bytes.now (Some (length c.args.bytes.now)));
          front_added = tt;
          files = λ file lt. stays_quiet c.args.self.now.tape.first c.args.self.now.tape.calls (Give c.args.bytes.now (Some (length c.args.bytes.now))) file (quiet_give file c.args.bytes.now (Some (length c.args.bytes.now)));
          time = elapses _ _ (time_noted _ c.args.self.now.tape.first c.args.self.now.tape.calls (Give c.args.bytes.now (Some (length c.args.bytes.now))));
          cause = not_caused false≢true refl;
          input = record {
            stamp = stamp_grows c.args.self.now.tape.calls (Give c.args.bytes.now (Some (length c.args.bytes.now)));
            input = input_stays c.args.self.now.tape.input c.args.self.now.tape.calls (Give c.args.bytes.now (Some (length c.args.bytes.now))) refl;
            reads = refl;
            disk = refl;
          };
          entry = gains_noted c.args.self.now.tells c.args.self.now.tape.calls (Give c.args.bytes.now (Some (length c.args.bytes.now)));
        })
      ]
    ]
