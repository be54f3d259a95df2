use Rattle.kh_walk.proofs.tests.+all_take.Given as goal

-- the components that are left
abbrev pub decreases-all_take : goal.decreases-all_take
decreases-all_take l = l.left
