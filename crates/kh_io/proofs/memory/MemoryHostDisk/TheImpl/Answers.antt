-- What the calls of the host's disk ensure gives what the trait asks.
use Rattle.std.proofs.Common.{length, take, Some, None, true, false, inl, inr, refl, ap, arith}
use Rattle.std.proofs.lemmas.Bool.{false≢true}
use Rattle.kh_io.specs.Call.{Len, ReadAt, WriteAt, Cut, Sync}
use Rattle.kh_io.specs.Memory.{is_listed, read_moves, read_len}
use Rattle.kh_io.specs.Recording.{seen_after, image_after}
use Rattle.kh_io.proofs.Framing.{caused, not_caused}
use Rattle.kh_io.proofs.Steps.{elapses, one_noted, one_stopped, three, stays_quiet, stays_same, quiet_len, quiet_read, quiet_write, quiet_cut, quiet_sync, quiet_failed_sync, time_noted, time_stands, follows_write, follows_cut, follows_none, safe_sync, sync_only, torn_none, cut_back_none, cut_part_none, state_written, state_cut, state_synced, sink_stays, input_stays, gains_noted, gains_stopped, one_more_rose, one_more_stands}
use Rattle.kh_io.proofs.memory.MemoryHostDisk.TheImpl.Goals as goal

pub len-tells : goal.len-tells
len-tells c =
    elim (three c.args.self.now.tape (0) (is_listed c.args.self.now) c.ensures.past c.ensures.listed c.ensures.done) [
      | inl p ↦ rw (p.0, p.1) (record {
        length = tt;
        files = λ file lt. stays_same c.args.self.now.tape.first c.args.self.now.tape.calls c.args.self.now.tape.calls file refl;
        time = elapses _ _ (time_stands _ c.args.self.now.tape.first c.args.self.now.tape.calls);
        cause = caused refl (one_more_rose c.args.self.now.disk_faults) (one_more_stands c.args.self.now.disk_faults);
        streams = record {
          stamp = refl;
          input = refl;
          sink = refl;
          reads = refl;
          writes = refl;
          calls = one_stopped c.args.self.now.tells c.args.self.now.tape.calls (Len c.args.file None) tt;
        };
        entry = gains_stopped c.args.self.now.tells c.args.self.now.tape.calls (Len c.args.file None);
      })
      | inr q ↦ elim q [
        | inl l ↦ rw (l.0, l.1) (record {
          length = tt;
          files = λ file lt. stays_quiet c.args.self.now.tape.first c.args.self.now.tape.calls (Len c.args.file None) file (quiet_len file c.args.file None);
          time = elapses _ _ (time_noted _ c.args.self.now.tape.first c.args.self.now.tape.calls (Len c.args.file None));
          cause = caused refl (one_more_rose c.args.self.now.disk_faults) (one_more_stands c.args.self.now.disk_faults);
          streams = record {
            stamp = ap length (sink_stays c.args.self.now.tape.calls (Len c.args.file None) refl);
            input = input_stays c.args.self.now.tape.input c.args.self.now.tape.calls (Len c.args.file None) refl;
            sink = sink_stays c.args.self.now.tape.calls (Len c.args.file None) refl;
            reads = refl;
            writes = refl;
            calls = one_noted c.args.self.now.tells c.args.self.now.tape.calls (Len c.args.file None) tt;
          };
          entry = gains_noted c.args.self.now.tells c.args.self.now.tape.calls (Len c.args.file None);
        })
        | inr d ↦ rw (d.0, d.1) (record {
          length = refl;
          files = λ file lt. stays_quiet c.args.self.now.tape.first c.args.self.now.tape.calls (Len c.args.file (Some (length (seen_after c.args.self.now.tape.first c.args.self.now.tape.calls c.args.file)))) file (quiet_len file c.args.file (Some (length (seen_after c.args.self.now.tape.first c.args.self.now.tape.calls c.args.file))));
          time = elapses _ _ (time_noted _ c.args.self.now.tape.first c.args.self.now.tape.calls (Len c.args.file (Some (length (seen_after c.args.self.now.tape.first c.args.self.now.tape.calls c.args.file)))));
          cause = not_caused false≢true refl;
          streams = record {
            stamp = ap length (sink_stays c.args.self.now.tape.calls (Len c.args.file (Some (length (seen_after c.args.self.now.tape.first c.args.self.now.tape.calls c.args.file)))) refl);
            input = input_stays c.args.self.now.tape.input c.args.self.now.tape.calls (Len c.args.file (Some (length (seen_after c.args.self.now.tape.first c.args.self.now.tape.calls c.args.file)))) refl;
            sink = sink_stays c.args.self.now.tape.calls (Len c.args.file (Some (length (seen_after c.args.self.now.tape.first c.args.self.now.tape.calls c.args.file)))) refl;
            reads = refl;
            writes = refl;
            calls = one_noted c.args.self.now.tells c.args.self.now.tape.calls (Len c.args.file (Some (length (seen_after c.args.self.now.tape.first c.args.self.now.tape.calls c.args.file)))) tt;
          };
          entry = gains_noted c.args.self.now.tells c.args.self.now.tape.calls (Len c.args.file (Some (length (seen_after c.args.self.now.tape.first c.args.self.now.tape.calls c.args.file))));
        })
      ]
    ]

pub read_at-tells : goal.read_at-tells
read_at-tells c =
    elim (three c.args.self.now.tape (read_moves c.args.self.now c.args.file c.args.at (length c.args.into.now)) (is_listed c.args.self.now) c.ensures.past c.ensures.listed c.ensures.done) [
      | inl p ↦ rw (p.0, p.1) (record {
        within = tt;
        bytes = tt;
        files = λ file lt. stays_same c.args.self.now.tape.first c.args.self.now.tape.calls c.args.self.now.tape.calls file refl;
        time = elapses _ _ (time_stands _ c.args.self.now.tape.first c.args.self.now.tape.calls);
        cause = caused refl (one_more_rose c.args.self.now.disk_faults) (one_more_stands c.args.self.now.disk_faults);
        streams = record {
          stamp = refl;
          input = refl;
          sink = refl;
          reads = refl;
          writes = refl;
          calls = one_stopped c.args.self.now.tells c.args.self.now.tape.calls (ReadAt c.args.file c.args.at (length c.new.into.now) None) tt;
        };
        entry = gains_stopped c.args.self.now.tells c.args.self.now.tape.calls (ReadAt c.args.file c.args.at (length c.new.into.now) None);
      })
      | inr q ↦ elim q [
        | inl l ↦ rw (l.0, l.1) (record {
          within = tt;
          bytes = tt;
          files = λ file lt. stays_quiet c.args.self.now.tape.first c.args.self.now.tape.calls (ReadAt c.args.file c.args.at (length c.new.into.now) None) file (quiet_read file c.args.file c.args.at (length c.new.into.now) None);
          time = elapses _ _ (time_noted _ c.args.self.now.tape.first c.args.self.now.tape.calls (ReadAt c.args.file c.args.at (length c.new.into.now) None));
          cause = caused refl (one_more_rose c.args.self.now.disk_faults) (one_more_stands c.args.self.now.disk_faults);
          streams = record {
            stamp = ap length (sink_stays c.args.self.now.tape.calls (ReadAt c.args.file c.args.at (length c.new.into.now) None) refl);
            input = input_stays c.args.self.now.tape.input c.args.self.now.tape.calls (ReadAt c.args.file c.args.at (length c.new.into.now) None) refl;
            sink = sink_stays c.args.self.now.tape.calls (ReadAt c.args.file c.args.at (length c.new.into.now) None) refl;
            reads = refl;
            writes = refl;
            calls = one_noted c.args.self.now.tells c.args.self.now.tape.calls (ReadAt c.args.file c.args.at (length c.new.into.now) None) tt;
          };
          entry = gains_noted c.args.self.now.tells c.args.self.now.tape.calls (ReadAt c.args.file c.args.at (length c.new.into.now) None);
        })
        | inr d ↦ rw (d.0, d.2) (record {
          within = omega arith;
          bytes = d.1;
          files = λ file lt. stays_quiet c.args.self.now.tape.first c.args.self.now.tape.calls (ReadAt c.args.file c.args.at (length c.new.into.now) (Some (take (read_len c.args.self.now.tape c.args.file c.args.at (length c.new.into.now)) c.new.into.now))) file (quiet_read file c.args.file c.args.at (length c.new.into.now) (Some (take (read_len c.args.self.now.tape c.args.file c.args.at (length c.new.into.now)) c.new.into.now)));
          time = elapses _ _ (time_noted _ c.args.self.now.tape.first c.args.self.now.tape.calls (ReadAt c.args.file c.args.at (length c.new.into.now) (Some (take (read_len c.args.self.now.tape c.args.file c.args.at (length c.new.into.now)) c.new.into.now))));
          cause = not_caused false≢true refl;
          streams = record {
            stamp = ap length (sink_stays c.args.self.now.tape.calls (ReadAt c.args.file c.args.at (length c.new.into.now) (Some (take (read_len c.args.self.now.tape c.args.file c.args.at (length c.new.into.now)) c.new.into.now))) refl);
            input = input_stays c.args.self.now.tape.input c.args.self.now.tape.calls (ReadAt c.args.file c.args.at (length c.new.into.now) (Some (take (read_len c.args.self.now.tape c.args.file c.args.at (length c.new.into.now)) c.new.into.now))) refl;
            sink = sink_stays c.args.self.now.tape.calls (ReadAt c.args.file c.args.at (length c.new.into.now) (Some (take (read_len c.args.self.now.tape c.args.file c.args.at (length c.new.into.now)) c.new.into.now))) refl;
            reads = refl;
            writes = refl;
            calls = one_noted c.args.self.now.tells c.args.self.now.tape.calls (ReadAt c.args.file c.args.at (length c.new.into.now) (Some (take (read_len c.args.self.now.tape c.args.file c.args.at (length c.new.into.now)) c.new.into.now))) tt;
          };
          entry = gains_noted c.args.self.now.tells c.args.self.now.tape.calls (ReadAt c.args.file c.args.at (length c.new.into.now) (Some (take (read_len c.args.self.now.tape c.args.file c.args.at (length c.new.into.now)) c.new.into.now)));
        })
      ]
    ]

pub write_at-tells : goal.write_at-tells
write_at-tells c =
    elim (three c.args.self.now.tape (length c.args.bytes.now) (is_listed c.args.self.now) c.ensures.past c.ensures.listed c.ensures.done) [
      | inl p ↦ rw (p.0, p.1) (record {
        written = tt;
        part_written = torn_none c.args.at (length c.args.bytes.now) (seen_after c.args.self.now.tape.first c.args.self.now.tape.calls c.args.file);
        images = follows_none (image_after c.args.self.now.tape.first c.args.self.now.tape.calls c.args.file) (λ h. absurd (false≢true h.0)) (torn_none c.args.at (length c.args.bytes.now));
        others = λ file lt other. stays_same c.args.self.now.tape.first c.args.self.now.tape.calls c.args.self.now.tape.calls file refl;
        time = elapses _ _ (time_stands _ c.args.self.now.tape.first c.args.self.now.tape.calls);
        cause = caused refl (one_more_rose c.args.self.now.disk_faults) (one_more_stands c.args.self.now.disk_faults);
        streams = record {
          stamp = refl;
          input = refl;
          sink = refl;
          reads = refl;
          writes = refl;
          calls = one_stopped c.args.self.now.tells c.args.self.now.tape.calls (WriteAt c.args.file c.args.at c.args.bytes.now false) tt;
        };
        entry = gains_stopped c.args.self.now.tells c.args.self.now.tape.calls (WriteAt c.args.file c.args.at c.args.bytes.now false);
      })
      | inr q ↦ elim q [
        | inl l ↦ rw (l.0, l.1) (record {
          written = tt;
          part_written = rw (ap (λ s. s.now) (state_written c.args.self.now.tape.first c.args.self.now.tape.calls c.args.file c.args.at c.args.bytes.now false)) (torn_none c.args.at (length c.args.bytes.now) (seen_after c.args.self.now.tape.first c.args.self.now.tape.calls c.args.file));
          images = follows_write _ c.args.self.now.tape.first c.args.self.now.tape.calls c.args.file c.args.at c.args.bytes.now false c.requires.room.start;
          others = λ file lt other. stays_quiet c.args.self.now.tape.first c.args.self.now.tape.calls (WriteAt c.args.file c.args.at c.args.bytes.now false) file (quiet_write file c.args.file c.args.at c.args.bytes.now false other);
          time = elapses _ _ (time_noted _ c.args.self.now.tape.first c.args.self.now.tape.calls (WriteAt c.args.file c.args.at c.args.bytes.now false));
          cause = caused refl (one_more_rose c.args.self.now.disk_faults) (one_more_stands c.args.self.now.disk_faults);
          streams = record {
            stamp = ap length (sink_stays c.args.self.now.tape.calls (WriteAt c.args.file c.args.at c.args.bytes.now false) refl);
            input = input_stays c.args.self.now.tape.input c.args.self.now.tape.calls (WriteAt c.args.file c.args.at c.args.bytes.now false) refl;
            sink = sink_stays c.args.self.now.tape.calls (WriteAt c.args.file c.args.at c.args.bytes.now false) refl;
            reads = refl;
            writes = refl;
            calls = one_noted c.args.self.now.tells c.args.self.now.tape.calls (WriteAt c.args.file c.args.at c.args.bytes.now false) tt;
          };
          entry = gains_noted c.args.self.now.tells c.args.self.now.tape.calls (WriteAt c.args.file c.args.at c.args.bytes.now false);
        })
        | inr d ↦ rw (d.0, d.1) (record {
          written = ap (λ s. s.now) (state_written c.args.self.now.tape.first c.args.self.now.tape.calls c.args.file c.args.at c.args.bytes.now true);
          part_written = tt;
          images = follows_write _ c.args.self.now.tape.first c.args.self.now.tape.calls c.args.file c.args.at c.args.bytes.now true c.requires.room.start;
          others = λ file lt other. stays_quiet c.args.self.now.tape.first c.args.self.now.tape.calls (WriteAt c.args.file c.args.at c.args.bytes.now true) file (quiet_write file c.args.file c.args.at c.args.bytes.now true other);
          time = elapses _ _ (time_noted _ c.args.self.now.tape.first c.args.self.now.tape.calls (WriteAt c.args.file c.args.at c.args.bytes.now true));
          cause = not_caused false≢true refl;
          streams = record {
            stamp = ap length (sink_stays c.args.self.now.tape.calls (WriteAt c.args.file c.args.at c.args.bytes.now true) refl);
            input = input_stays c.args.self.now.tape.input c.args.self.now.tape.calls (WriteAt c.args.file c.args.at c.args.bytes.now true) refl;
            sink = sink_stays c.args.self.now.tape.calls (WriteAt c.args.file c.args.at c.args.bytes.now true) refl;
            reads = refl;
            writes = refl;
            calls = one_noted c.args.self.now.tells c.args.self.now.tape.calls (WriteAt c.args.file c.args.at c.args.bytes.now true) tt;
          };
          entry = gains_noted c.args.self.now.tells c.args.self.now.tape.calls (WriteAt c.args.file c.args.at c.args.bytes.now true);
        })
      ]
    ]

pub cut-tells : goal.cut-tells
cut-tells c =
    elim (three c.args.self.now.tape (0) (is_listed c.args.self.now) c.ensures.past c.ensures.listed c.ensures.done) [
      | inl p ↦ rw (p.0, p.1) (record {
        cut = tt;
        part_cut = cut_part_none c.args.len (seen_after c.args.self.now.tape.first c.args.self.now.tape.calls c.args.file) c.requires.len;
        images = follows_none (image_after c.args.self.now.tape.first c.args.self.now.tape.calls c.args.file) (λ h. absurd (false≢true h.0)) (cut_back_none c.args.len);
        others = λ file lt other. stays_same c.args.self.now.tape.first c.args.self.now.tape.calls c.args.self.now.tape.calls file refl;
        time = elapses _ _ (time_stands _ c.args.self.now.tape.first c.args.self.now.tape.calls);
        cause = caused refl (one_more_rose c.args.self.now.disk_faults) (one_more_stands c.args.self.now.disk_faults);
        streams = record {
          stamp = refl;
          input = refl;
          sink = refl;
          reads = refl;
          writes = refl;
          calls = one_stopped c.args.self.now.tells c.args.self.now.tape.calls (Cut c.args.file c.args.len false) tt;
        };
        entry = gains_stopped c.args.self.now.tells c.args.self.now.tape.calls (Cut c.args.file c.args.len false);
      })
      | inr q ↦ elim q [
        | inl l ↦ rw (l.0, l.1) (record {
          cut = tt;
          part_cut = rw (ap (λ s. s.now) (state_cut c.args.self.now.tape.first c.args.self.now.tape.calls c.args.file c.args.len false)) (cut_part_none c.args.len (seen_after c.args.self.now.tape.first c.args.self.now.tape.calls c.args.file) c.requires.len);
          images = follows_cut _ c.args.self.now.tape.first c.args.self.now.tape.calls c.args.file c.args.len false;
          others = λ file lt other. stays_quiet c.args.self.now.tape.first c.args.self.now.tape.calls (Cut c.args.file c.args.len false) file (quiet_cut file c.args.file c.args.len false other);
          time = elapses _ _ (time_noted _ c.args.self.now.tape.first c.args.self.now.tape.calls (Cut c.args.file c.args.len false));
          cause = caused refl (one_more_rose c.args.self.now.disk_faults) (one_more_stands c.args.self.now.disk_faults);
          streams = record {
            stamp = ap length (sink_stays c.args.self.now.tape.calls (Cut c.args.file c.args.len false) refl);
            input = input_stays c.args.self.now.tape.input c.args.self.now.tape.calls (Cut c.args.file c.args.len false) refl;
            sink = sink_stays c.args.self.now.tape.calls (Cut c.args.file c.args.len false) refl;
            reads = refl;
            writes = refl;
            calls = one_noted c.args.self.now.tells c.args.self.now.tape.calls (Cut c.args.file c.args.len false) tt;
          };
          entry = gains_noted c.args.self.now.tells c.args.self.now.tape.calls (Cut c.args.file c.args.len false);
        })
        | inr d ↦ rw (d.0, d.1) (record {
          cut = ap (λ s. s.now) (state_cut c.args.self.now.tape.first c.args.self.now.tape.calls c.args.file c.args.len true);
          part_cut = tt;
          images = follows_cut _ c.args.self.now.tape.first c.args.self.now.tape.calls c.args.file c.args.len true;
          others = λ file lt other. stays_quiet c.args.self.now.tape.first c.args.self.now.tape.calls (Cut c.args.file c.args.len true) file (quiet_cut file c.args.file c.args.len true other);
          time = elapses _ _ (time_noted _ c.args.self.now.tape.first c.args.self.now.tape.calls (Cut c.args.file c.args.len true));
          cause = not_caused false≢true refl;
          streams = record {
            stamp = ap length (sink_stays c.args.self.now.tape.calls (Cut c.args.file c.args.len true) refl);
            input = input_stays c.args.self.now.tape.input c.args.self.now.tape.calls (Cut c.args.file c.args.len true) refl;
            sink = sink_stays c.args.self.now.tape.calls (Cut c.args.file c.args.len true) refl;
            reads = refl;
            writes = refl;
            calls = one_noted c.args.self.now.tells c.args.self.now.tape.calls (Cut c.args.file c.args.len true) tt;
          };
          entry = gains_noted c.args.self.now.tells c.args.self.now.tape.calls (Cut c.args.file c.args.len true);
        })
      ]
    ]

pub sync-tells : goal.sync-tells
sync-tells c =
    elim (three c.args.self.now.tape (0) (is_listed c.args.self.now) c.ensures.past c.ensures.listed c.ensures.done) [
      | inl p ↦ rw (p.0, p.1) (record {
        safe = tt;
        read = refl;
        no_new_images = λ bytes image. image;
        not_safe = stays_same c.args.self.now.tape.first c.args.self.now.tape.calls c.args.self.now.tape.calls c.args.file refl;
        others = λ file lt other. stays_same c.args.self.now.tape.first c.args.self.now.tape.calls c.args.self.now.tape.calls file refl;
        time = elapses _ _ (time_stands _ c.args.self.now.tape.first c.args.self.now.tape.calls);
        cause = caused refl (one_more_rose c.args.self.now.disk_faults) (one_more_stands c.args.self.now.disk_faults);
        streams = record {
          stamp = refl;
          input = refl;
          sink = refl;
          reads = refl;
          writes = refl;
          calls = one_stopped c.args.self.now.tells c.args.self.now.tape.calls (Sync c.args.file false) tt;
        };
        entry = gains_stopped c.args.self.now.tells c.args.self.now.tape.calls (Sync c.args.file false);
      })
      | inr q ↦ elim q [
        | inl l ↦ rw (l.0, l.1) (record {
          safe = tt;
          read = (stays_quiet c.args.self.now.tape.first c.args.self.now.tape.calls (Sync c.args.file false) c.args.file (quiet_failed_sync c.args.file c.args.file)).read;
          no_new_images = (stays_quiet c.args.self.now.tape.first c.args.self.now.tape.calls (Sync c.args.file false) c.args.file (quiet_failed_sync c.args.file c.args.file)).only;
          not_safe = stays_quiet c.args.self.now.tape.first c.args.self.now.tape.calls (Sync c.args.file false) c.args.file (quiet_failed_sync c.args.file c.args.file);
          others = λ file lt other. stays_quiet c.args.self.now.tape.first c.args.self.now.tape.calls (Sync c.args.file false) file (quiet_sync file c.args.file false other);
          time = elapses _ _ (time_noted _ c.args.self.now.tape.first c.args.self.now.tape.calls (Sync c.args.file false));
          cause = caused refl (one_more_rose c.args.self.now.disk_faults) (one_more_stands c.args.self.now.disk_faults);
          streams = record {
            stamp = ap length (sink_stays c.args.self.now.tape.calls (Sync c.args.file false) refl);
            input = input_stays c.args.self.now.tape.input c.args.self.now.tape.calls (Sync c.args.file false) refl;
            sink = sink_stays c.args.self.now.tape.calls (Sync c.args.file false) refl;
            reads = refl;
            writes = refl;
            calls = one_noted c.args.self.now.tells c.args.self.now.tape.calls (Sync c.args.file false) tt;
          };
          entry = gains_noted c.args.self.now.tells c.args.self.now.tape.calls (Sync c.args.file false);
        })
        | inr d ↦ rw (d.0, d.1) (record {
          safe = safe_sync c.args.self.now.tape.first c.args.self.now.tape.calls c.args.file;
          read = ap (λ s. s.now) (state_synced c.args.self.now.tape.first c.args.self.now.tape.calls c.args.file);
          no_new_images = sync_only c.args.self.now.tape.first c.args.self.now.tape.calls c.args.file;
          not_safe = tt;
          others = λ file lt other. stays_quiet c.args.self.now.tape.first c.args.self.now.tape.calls (Sync c.args.file true) file (quiet_sync file c.args.file true other);
          time = elapses _ _ (time_noted _ c.args.self.now.tape.first c.args.self.now.tape.calls (Sync c.args.file true));
          cause = not_caused false≢true refl;
          streams = record {
            stamp = ap length (sink_stays c.args.self.now.tape.calls (Sync c.args.file true) refl);
            input = input_stays c.args.self.now.tape.input c.args.self.now.tape.calls (Sync c.args.file true) refl;
            sink = sink_stays c.args.self.now.tape.calls (Sync c.args.file true) refl;
            reads = refl;
            writes = refl;
            calls = one_noted c.args.self.now.tells c.args.self.now.tape.calls (Sync c.args.file true) tt;
          };
          entry = gains_noted c.args.self.now.tells c.args.self.now.tape.calls (Sync c.args.file true);
        })
      ]
    ]
