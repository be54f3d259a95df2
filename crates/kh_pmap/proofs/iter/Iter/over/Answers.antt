use Rattle.kh_pmap.proofs.Following.{from_first}
use Rattle.kh_pmap.proofs.iter.Iter.over.Goals as goal

pub returns : goal.returns
returns g c = from_first g.met.K.Ord.total _ c.args.map.now c.first.ensures.rises c.first.ensures.entry
