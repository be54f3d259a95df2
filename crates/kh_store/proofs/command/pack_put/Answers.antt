use Rattle.std.proofs.Common.{◌<◌, ◌^◌, sym, subst}
use Rattle.kh_term.specs.declared.tree.TermTree.{TermTree}
use Rattle.kh_term.specs.Size.{width_of}
use Rattle.kh_store.proofs.Puts.{put_narrow}
use Rattle.kh_store.proofs.command.pack_put.Goals as goal

pub pack-requires : goal.pack-requires
pack-requires c =
    record { narrow = subst (λ (t : TermTree). width_of t < 2 ^ 32) (sym c.in_ok-term.ensures) (put_narrow _ _ c.names-fits.ensures.fits) }
