-- What the calls of the host's disk ensure gives what the trait asks.
use Rattle.std.proofs.Common.{◌≡◌, ◌≤◌, length, take, Some, true, inl, inr, refl, ap, arith}
use Rattle.std.proofs.lemmas.Bool.{false≢true}
use Rattle.kh_io.specs.Call.{Len, ReadAt, WriteAt, Cut, Sync}
use Rattle.kh_io.specs.Disk.{IsReadAt, put}
use Rattle.kh_io.specs.Memory.{read_len}
use Rattle.kh_io.specs.Sound.{sound_image, sound_since}
use Rattle.kh_io.specs.Recording.{seen_after, left_after, given_in}
use Rattle.kh_io.proofs.Framing.{caused, not_caused}
use Rattle.kh_io.proofs.Steps.{elapses, one_gone, one_done, two, told_none, gains_gone, gone_stays, gone_follows, gone_time, condition, stays_quiet, quiet_len, quiet_read, quiet_write, quiet_cut, quiet_sync, time_noted, follows_write, follows_cut, safe_sync, sync_only, state_written, state_cut, state_synced, sink_stays, input_stays}
use Rattle.kh_io.proofs.sound.SoundHostDisk.TheImpl.Goals as goal

pub len-tells : goal.len-tells
len-tells c =
    elim (two c.args.self.now.past c.args.self.now.tape (0) c.ensures.past c.ensures.done) [
      | inl p ↦ rw (p.0, p.1) (record {
        length = told_none c.args.self.now.past (seen_after c.args.self.now.tape.first c.args.self.now.tape.calls c.args.file) (λ bytes _. 0 ≡ length bytes);
        files = λ file lt. gone_stays c.args.self.now.past (seen_after c.args.self.now.tape.first c.args.self.now.tape.calls file) (sound_image c.args.self.now file);
        time = elapses _ _ (gone_time (length c.args.self.now.tape.calls) (length (given_in c.args.self.now.tape.calls)) (sound_since c.args.self.now) _ (λ h. absurd (false≢true (h 0 (omega arith)))));
        cause = not_caused false≢true refl;
        streams = record {
          stamp = refl;
          input = told_none c.args.self.now.past (left_after c.args.self.now.tape.input c.args.self.now.tape.calls) (λ y z. z ≡ y);
          sink = told_none c.args.self.now.past (given_in c.args.self.now.tape.calls) (λ y z. z ≡ y);
          reads = refl;
          writes = refl;
          calls = one_gone c.args.self.now.past c.args.self.now.tape.calls (Len c.args.file (Some 0)) tt;
        };
        entry = gains_gone c.args.self.now.past c.args.self.now.tape.calls (Len c.args.file (Some 0));
      })
      | inr d ↦ rw (d.1.0, d.1.1, d.0) (record {
        length = refl;
        files = λ file lt. stays_quiet c.args.self.now.tape.first c.args.self.now.tape.calls (Len c.args.file (Some (length (seen_after c.args.self.now.tape.first c.args.self.now.tape.calls c.args.file)))) file (quiet_len file c.args.file (Some (length (seen_after c.args.self.now.tape.first c.args.self.now.tape.calls c.args.file))));
        time = elapses _ _ (time_noted _ c.args.self.now.tape.first c.args.self.now.tape.calls (Len c.args.file (Some (length (seen_after c.args.self.now.tape.first c.args.self.now.tape.calls c.args.file)))));
        cause = not_caused false≢true refl;
        streams = record {
          stamp = ap length (sink_stays c.args.self.now.tape.calls (Len c.args.file (Some (length (seen_after c.args.self.now.tape.first c.args.self.now.tape.calls c.args.file)))) refl);
          input = input_stays c.args.self.now.tape.input c.args.self.now.tape.calls (Len c.args.file (Some (length (seen_after c.args.self.now.tape.first c.args.self.now.tape.calls c.args.file)))) refl;
          sink = sink_stays c.args.self.now.tape.calls (Len c.args.file (Some (length (seen_after c.args.self.now.tape.first c.args.self.now.tape.calls c.args.file)))) refl;
          reads = refl;
          writes = refl;
          calls = one_done c.args.self.now.tape.calls (Len c.args.file (Some (length (seen_after c.args.self.now.tape.first c.args.self.now.tape.calls c.args.file)))) tt;
        };
        entry = refl;
      })
    ]

pub read_at-tells : goal.read_at-tells
read_at-tells c =
    elim (two c.args.self.now.past c.args.self.now.tape (read_len c.args.self.now.tape c.args.file c.args.at (length c.args.into.now)) c.ensures.past c.ensures.done) [
      | inl p ↦ rw (p.0, p.1) (record {
        within = omega arith;
        bytes = told_none c.args.self.now.past (seen_after c.args.self.now.tape.first c.args.self.now.tape.calls c.args.file) (λ bytes _. IsReadAt bytes c.args.at 0 c.new.into.now);
        files = λ file lt. gone_stays c.args.self.now.past (seen_after c.args.self.now.tape.first c.args.self.now.tape.calls file) (sound_image c.args.self.now file);
        time = elapses _ _ (gone_time (length c.args.self.now.tape.calls) (length (given_in c.args.self.now.tape.calls)) (sound_since c.args.self.now) _ (λ h. absurd (false≢true (h 0 (omega arith)))));
        cause = not_caused false≢true refl;
        streams = record {
          stamp = refl;
          input = told_none c.args.self.now.past (left_after c.args.self.now.tape.input c.args.self.now.tape.calls) (λ y z. z ≡ y);
          sink = told_none c.args.self.now.past (given_in c.args.self.now.tape.calls) (λ y z. z ≡ y);
          reads = refl;
          writes = refl;
          calls = one_gone c.args.self.now.past c.args.self.now.tape.calls (ReadAt c.args.file c.args.at (length c.new.into.now) (Some (take 0 c.new.into.now))) tt;
        };
        entry = gains_gone c.args.self.now.past c.args.self.now.tape.calls (ReadAt c.args.file c.args.at (length c.new.into.now) (Some (take 0 c.new.into.now)));
      })
      | inr d ↦ rw (d.1.0, d.1.2, d.0) (record {
        within = omega arith;
        bytes = d.1.1;
        files = λ file lt. stays_quiet c.args.self.now.tape.first c.args.self.now.tape.calls (ReadAt c.args.file c.args.at (length c.new.into.now) (Some (take (read_len c.args.self.now.tape c.args.file c.args.at (length c.new.into.now)) c.new.into.now))) file (quiet_read file c.args.file c.args.at (length c.new.into.now) (Some (take (read_len c.args.self.now.tape c.args.file c.args.at (length c.new.into.now)) c.new.into.now)));
        time = elapses _ _ (time_noted _ c.args.self.now.tape.first c.args.self.now.tape.calls (ReadAt c.args.file c.args.at (length c.new.into.now) (Some (take (read_len c.args.self.now.tape c.args.file c.args.at (length c.new.into.now)) c.new.into.now))));
        cause = not_caused false≢true refl;
        streams = record {
          stamp = ap length (sink_stays c.args.self.now.tape.calls (ReadAt c.args.file c.args.at (length c.new.into.now) (Some (take (read_len c.args.self.now.tape c.args.file c.args.at (length c.new.into.now)) c.new.into.now))) refl);
          input = input_stays c.args.self.now.tape.input c.args.self.now.tape.calls (ReadAt c.args.file c.args.at (length c.new.into.now) (Some (take (read_len c.args.self.now.tape c.args.file c.args.at (length c.new.into.now)) c.new.into.now))) refl;
          sink = sink_stays c.args.self.now.tape.calls (ReadAt c.args.file c.args.at (length c.new.into.now) (Some (take (read_len c.args.self.now.tape c.args.file c.args.at (length c.new.into.now)) c.new.into.now))) refl;
          reads = refl;
          writes = refl;
          calls = one_done c.args.self.now.tape.calls (ReadAt c.args.file c.args.at (length c.new.into.now) (Some (take (read_len c.args.self.now.tape c.args.file c.args.at (length c.new.into.now)) c.new.into.now))) tt;
        };
        entry = refl;
      })
    ]

pub write_at-tells : goal.write_at-tells
write_at-tells c =
    elim (two c.args.self.now.past c.args.self.now.tape (length c.args.bytes.now) c.ensures.past c.ensures.done) [
      | inl p ↦ rw (p.0, p.1) (record {
        written = told_none c.args.self.now.past (seen_after c.args.self.now.tape.first c.args.self.now.tape.calls c.args.file) (λ old new. new ≡ put old c.args.at c.args.bytes.now);
        part_written = tt;
        images = gone_follows (sound_image c.args.self.now c.args.file) (λ h. absurd (false≢true h.1));
        others = λ file lt other. gone_stays c.args.self.now.past (seen_after c.args.self.now.tape.first c.args.self.now.tape.calls file) (sound_image c.args.self.now file);
        time = elapses _ _ (gone_time (length c.args.self.now.tape.calls) (length (given_in c.args.self.now.tape.calls)) (sound_since c.args.self.now) _ (λ h. absurd (false≢true (h 0 (omega arith)))));
        cause = not_caused false≢true refl;
        streams = record {
          stamp = refl;
          input = told_none c.args.self.now.past (left_after c.args.self.now.tape.input c.args.self.now.tape.calls) (λ y z. z ≡ y);
          sink = told_none c.args.self.now.past (given_in c.args.self.now.tape.calls) (λ y z. z ≡ y);
          reads = refl;
          writes = refl;
          calls = one_gone c.args.self.now.past c.args.self.now.tape.calls (WriteAt c.args.file c.args.at c.args.bytes.now true) tt;
        };
        entry = gains_gone c.args.self.now.past c.args.self.now.tape.calls (WriteAt c.args.file c.args.at c.args.bytes.now true);
      })
      | inr d ↦ rw (d.1.0, d.1.1, d.0) (record {
        written = ap (λ s. s.now) (state_written c.args.self.now.tape.first c.args.self.now.tape.calls c.args.file c.args.at c.args.bytes.now true);
        part_written = tt;
        images = follows_write _ c.args.self.now.tape.first c.args.self.now.tape.calls c.args.file c.args.at c.args.bytes.now true (condition c.args.self.now.past (seen_after c.args.self.now.tape.first c.args.self.now.tape.calls c.args.file) (λ old. c.args.at ≤ length old) d.0 c.requires.room.start);
        others = λ file lt other. stays_quiet c.args.self.now.tape.first c.args.self.now.tape.calls (WriteAt c.args.file c.args.at c.args.bytes.now true) file (quiet_write file c.args.file c.args.at c.args.bytes.now true other);
        time = elapses _ _ (time_noted _ c.args.self.now.tape.first c.args.self.now.tape.calls (WriteAt c.args.file c.args.at c.args.bytes.now true));
        cause = not_caused false≢true refl;
        streams = record {
          stamp = ap length (sink_stays c.args.self.now.tape.calls (WriteAt c.args.file c.args.at c.args.bytes.now true) refl);
          input = input_stays c.args.self.now.tape.input c.args.self.now.tape.calls (WriteAt c.args.file c.args.at c.args.bytes.now true) refl;
          sink = sink_stays c.args.self.now.tape.calls (WriteAt c.args.file c.args.at c.args.bytes.now true) refl;
          reads = refl;
          writes = refl;
          calls = one_done c.args.self.now.tape.calls (WriteAt c.args.file c.args.at c.args.bytes.now true) tt;
        };
        entry = refl;
      })
    ]

pub cut-tells : goal.cut-tells
cut-tells c =
    elim (two c.args.self.now.past c.args.self.now.tape (0) c.ensures.past c.ensures.done) [
      | inl p ↦ rw (p.0, p.1) (record {
        cut = told_none c.args.self.now.past (seen_after c.args.self.now.tape.first c.args.self.now.tape.calls c.args.file) (λ old new. new ≡ take c.args.len old);
        part_cut = tt;
        images = gone_follows (sound_image c.args.self.now c.args.file) (λ h. absurd (false≢true h.1));
        others = λ file lt other. gone_stays c.args.self.now.past (seen_after c.args.self.now.tape.first c.args.self.now.tape.calls file) (sound_image c.args.self.now file);
        time = elapses _ _ (gone_time (length c.args.self.now.tape.calls) (length (given_in c.args.self.now.tape.calls)) (sound_since c.args.self.now) _ (λ h. absurd (false≢true (h 0 (omega arith)))));
        cause = not_caused false≢true refl;
        streams = record {
          stamp = refl;
          input = told_none c.args.self.now.past (left_after c.args.self.now.tape.input c.args.self.now.tape.calls) (λ y z. z ≡ y);
          sink = told_none c.args.self.now.past (given_in c.args.self.now.tape.calls) (λ y z. z ≡ y);
          reads = refl;
          writes = refl;
          calls = one_gone c.args.self.now.past c.args.self.now.tape.calls (Cut c.args.file c.args.len true) tt;
        };
        entry = gains_gone c.args.self.now.past c.args.self.now.tape.calls (Cut c.args.file c.args.len true);
      })
      | inr d ↦ rw (d.1.0, d.1.1, d.0) (record {
        cut = ap (λ s. s.now) (state_cut c.args.self.now.tape.first c.args.self.now.tape.calls c.args.file c.args.len true);
        part_cut = tt;
        images = follows_cut _ c.args.self.now.tape.first c.args.self.now.tape.calls c.args.file c.args.len true;
        others = λ file lt other. stays_quiet c.args.self.now.tape.first c.args.self.now.tape.calls (Cut c.args.file c.args.len true) file (quiet_cut file c.args.file c.args.len true other);
        time = elapses _ _ (time_noted _ c.args.self.now.tape.first c.args.self.now.tape.calls (Cut c.args.file c.args.len true));
        cause = not_caused false≢true refl;
        streams = record {
          stamp = ap length (sink_stays c.args.self.now.tape.calls (Cut c.args.file c.args.len true) refl);
          input = input_stays c.args.self.now.tape.input c.args.self.now.tape.calls (Cut c.args.file c.args.len true) refl;
          sink = sink_stays c.args.self.now.tape.calls (Cut c.args.file c.args.len true) refl;
          reads = refl;
          writes = refl;
          calls = one_done c.args.self.now.tape.calls (Cut c.args.file c.args.len true) tt;
        };
        entry = refl;
      })
    ]

pub sync-tells : goal.sync-tells
sync-tells c =
    elim (two c.args.self.now.past c.args.self.now.tape (0) c.ensures.past c.ensures.done) [
      | inl p ↦ rw (p.0, p.1) (record {
        safe = λ bytes none. absurd none;
        read = told_none c.args.self.now.past (seen_after c.args.self.now.tape.first c.args.self.now.tape.calls c.args.file) (λ y z. z ≡ y);
        no_new_images = λ bytes none. absurd none;
        not_safe = tt;
        others = λ file lt other. gone_stays c.args.self.now.past (seen_after c.args.self.now.tape.first c.args.self.now.tape.calls file) (sound_image c.args.self.now file);
        time = elapses _ _ (gone_time (length c.args.self.now.tape.calls) (length (given_in c.args.self.now.tape.calls)) (sound_since c.args.self.now) _ (λ h. absurd (false≢true (h 0 (omega arith)))));
        cause = not_caused false≢true refl;
        streams = record {
          stamp = refl;
          input = told_none c.args.self.now.past (left_after c.args.self.now.tape.input c.args.self.now.tape.calls) (λ y z. z ≡ y);
          sink = told_none c.args.self.now.past (given_in c.args.self.now.tape.calls) (λ y z. z ≡ y);
          reads = refl;
          writes = refl;
          calls = one_gone c.args.self.now.past c.args.self.now.tape.calls (Sync c.args.file true) tt;
        };
        entry = gains_gone c.args.self.now.past c.args.self.now.tape.calls (Sync c.args.file true);
      })
      | inr d ↦ rw (d.1.0, d.1.1, d.0) (record {
        safe = safe_sync c.args.self.now.tape.first c.args.self.now.tape.calls c.args.file;
        read = ap (λ s. s.now) (state_synced c.args.self.now.tape.first c.args.self.now.tape.calls c.args.file);
        no_new_images = sync_only c.args.self.now.tape.first c.args.self.now.tape.calls c.args.file;
        not_safe = tt;
        others = λ file lt other. stays_quiet c.args.self.now.tape.first c.args.self.now.tape.calls (Sync c.args.file true) file (quiet_sync file c.args.file true other);
        time = elapses _ _ (time_noted _ c.args.self.now.tape.first c.args.self.now.tape.calls (Sync c.args.file true));
        cause = not_caused false≢true refl;
        streams = record {
          stamp = ap length (sink_stays c.args.self.now.tape.calls (Sync c.args.file true) refl);
          input = input_stays c.args.self.now.tape.input c.args.self.now.tape.calls (Sync c.args.file true) refl;
          sink = sink_stays c.args.self.now.tape.calls (Sync c.args.file true) refl;
          reads = refl;
          writes = refl;
          calls = one_done c.args.self.now.tape.calls (Sync c.args.file true) tt;
        };
        entry = refl;
      })
    ]
