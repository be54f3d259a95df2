use Rattle.std.proofs.Common.{take}
use Rattle.kh_io.proofs.Replays.{four_filled, filled_images}
use Rattle.kh_io.proofs.recorder.Recorder.image.Goals as goal

pub returns-clause-filled : goal.returns-clause-filled
returns-clause-filled c = four_filled c.args.self.now.first (take c.args.calls c.args.self.now.calls) c.args.fill _
    c.in_ok-file_image.ensures c.in_ok-file_image-2.ensures c.in_ok-file_image-3.ensures c.in_ok-file_image-4.ensures

pub returns-clause-image : goal.returns-clause-image
returns-clause-image c = filled_images c.args.self.now.first (take c.args.calls c.args.self.now.calls) c.args.fill _
    (four_filled c.args.self.now.first (take c.args.calls c.args.self.now.calls) c.args.fill
    (record { s0 = c.in_ok-file_image.field-0; l0 = c.in_ok-file_image-2.field-0; s1 = c.in_ok-file_image-3.field-0; l1 = c.in_ok-file_image-4.field-0 })
    c.in_ok-file_image.ensures c.in_ok-file_image-2.ensures c.in_ok-file_image-3.ensures c.in_ok-file_image-4.ensures)
