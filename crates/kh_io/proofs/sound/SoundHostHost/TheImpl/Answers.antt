-- What the calls of the host ensure gives what the trait asks.
use Rattle.std.proofs.Common.{◌≡◌, length, [], ◌++◌, take, Some, inl, inr, refl, ap, arith}
use Rattle.std.proofs.lemmas.Bool.{false≢true}
use Rattle.kh_io.specs.Call.{Take, Give}
use Rattle.kh_io.specs.Memory.{take_len}
use Rattle.kh_io.specs.Sound.{sound_image, sound_since}
use Rattle.kh_io.specs.Recording.{seen_after, left_after, given_in}
use Rattle.kh_io.proofs.Recordings.{given_push}
use Rattle.kh_io.proofs.Framing.{caused, not_caused}
use Rattle.kh_io.proofs.Steps.{elapses, two, told_none, gains_gone, gone_stays, gone_time, stays_quiet, quiet_take, quiet_give, time_noted, sink_stays, input_stays, taken_off, none_left, stamp_grows}
use Rattle.kh_io.proofs.sound.SoundHostHost.TheImpl.Goals as goal

pub take-tells : goal.take-tells
take-tells c =
    elim (two c.args.self.now.past c.args.self.now.tape (take_len c.args.self.now.tape (length c.args.into.now)) c.ensures.past c.ensures.done) [
      | inl p ↦ rw (p.0, p.1) (record {
        within = omega arith;
        taken = told_none c.args.self.now.past (left_after c.args.self.now.tape.input c.args.self.now.tape.calls) (λ input rest. input ≡ take 0 c.new.into.now ++ rest);
        end = λ zero_ some. told_none c.args.self.now.past (left_after c.args.self.now.tape.input c.args.self.now.tape.calls) (λ input _. input ≡ []);
        none_taken = tt;
        files = λ file lt. gone_stays c.args.self.now.past (seen_after c.args.self.now.tape.first c.args.self.now.tape.calls file) (sound_image c.args.self.now file);
        time = elapses _ _ (gone_time (length c.args.self.now.tape.calls) (length (given_in c.args.self.now.tape.calls)) (sound_since c.args.self.now) _ (λ h. absurd (false≢true (h 0 (omega arith)))));
        cause = not_caused false≢true refl;
        sink = record {
          stamp = refl;
          sink = told_none c.args.self.now.past (given_in c.args.self.now.tape.calls) (λ y z. z ≡ y);
          writes = refl;
          disk = refl;
        };
        entry = gains_gone c.args.self.now.past c.args.self.now.tape.calls (Take (length c.new.into.now) (Some (take 0 c.new.into.now)));
      })
      | inr d ↦ rw (d.1.0, d.1.2, d.0) (record {
        within = omega arith;
        taken = taken_off c.args.self.now.tape.input c.args.self.now.tape.calls (length c.new.into.now) (take_len c.args.self.now.tape (length c.new.into.now)) c.new.into.now (omega arith) d.1.1;
        end = λ none some. none_left c.args.self.now.tape.input c.args.self.now.tape.calls (length c.new.into.now) none some;
        none_taken = tt;
        files = λ file lt. stays_quiet c.args.self.now.tape.first c.args.self.now.tape.calls (Take (length c.new.into.now) (Some (take (take_len c.args.self.now.tape (length c.new.into.now)) c.new.into.now))) file (quiet_take file (length c.new.into.now) (Some (take (take_len c.args.self.now.tape (length c.new.into.now)) c.new.into.now)));
        time = elapses _ _ (time_noted _ c.args.self.now.tape.first c.args.self.now.tape.calls (Take (length c.new.into.now) (Some (take (take_len c.args.self.now.tape (length c.new.into.now)) c.new.into.now))));
        cause = not_caused false≢true refl;
        sink = record {
          stamp = ap length (sink_stays c.args.self.now.tape.calls (Take (length c.new.into.now) (Some (take (take_len c.args.self.now.tape (length c.new.into.now)) c.new.into.now))) refl);
          sink = sink_stays c.args.self.now.tape.calls (Take (length c.new.into.now) (Some (take (take_len c.args.self.now.tape (length c.new.into.now)) c.new.into.now))) refl;
          writes = refl;
          disk = refl;
        };
        entry = refl;
      })
    ]

pub give-tells : goal.give-tells
give-tells c =
    elim (two c.args.self.now.past c.args.self.now.tape (length c.args.bytes.now) c.ensures.past c.ensures.done) [
      | inl p ↦ rw (p.0, p.1) (record {
        within = omega arith;
        some = λ lt. lt;
        added = told_none c.args.self.now.past (given_in c.args.self.now.tape.calls) (λ a b. b ≡ a ++ take (length c.args.bytes.now) c.args.bytes.now);
        front_added = tt;
        files = λ file lt. gone_stays c.args.self.now.past (seen_after c.args.self.now.tape.first c.args.self.now.tape.calls file) (sound_image c.args.self.now file);
        time = elapses _ _ (gone_time (length c.args.self.now.tape.calls) (length (given_in c.args.self.now.tape.calls)) (sound_since c.args.self.now) _ (λ h. absurd (false≢true (h 0 (omega arith)))));
        cause = not_caused false≢true refl;
        input = record {
          stamp = omega arith;
          input = told_none c.args.self.now.past (left_after c.args.self.now.tape.input c.args.self.now.tape.calls) (λ y z. z ≡ y);
          reads = refl;
          disk = refl;
        };
        entry = gains_gone c.args.self.now.past c.args.self.now.tape.calls (Give c.args.bytes.now (Some (length c.args.bytes.now)));
      })
      | inr d ↦ rw (d.1.0, d.1.1, d.0) (record {
        within = omega arith;
        some = λ lt. lt;
        added = given_push c.args.self.now.tape.calls (Give c.args.bytes.now (Some (length c.args.bytes.now)));
        front_added = tt;
        files = λ file lt. stays_quiet c.args.self.now.tape.first c.args.self.now.tape.calls (Give c.args.bytes.now (Some (length c.args.bytes.now))) file (quiet_give file c.args.bytes.now (Some (length c.args.bytes.now)));
        time = elapses _ _ (time_noted _ c.args.self.now.tape.first c.args.self.now.tape.calls (Give c.args.bytes.now (Some (length c.args.bytes.now))));
        cause = not_caused false≢true refl;
        input = record {
          stamp = stamp_grows c.args.self.now.tape.calls (Give c.args.bytes.now (Some (length c.args.bytes.now)));
          input = input_stays c.args.self.now.tape.input c.args.self.now.tape.calls (Give c.args.bytes.now (Some (length c.args.bytes.now))) refl;
          reads = refl;
          disk = refl;
        };
        entry = refl;
      })
    ]
