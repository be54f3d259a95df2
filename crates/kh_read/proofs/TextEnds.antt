-- What the end of the input makes of a place: nothing yet, or a form that ends there.
use Rattle.std.proofs.Common.{◌≡◌, ℕ, List, [], ◌∷◌, refl}
use Rattle.kh_term.specs.declared.tree.TermTree.{TermTree}
use Rattle.kh_term.specs.declared.tree.TermTree.TheVariants as tree
use Rattle.kh_read.specs.State.{Frame, Place, Before, After, AfterName, AfterArity, AfterByte, AfterText, AfterSegment, Minus, Digits, Word, Quote, Angle, Sharp, Arrow, Close, Dotted, Point, Fraction, Mark, Signed, Exponent, SizeMark, Size, UtfMark, Utf, Fun, CountMark, Count, Reading, Ended, Cut}
use Rattle.kh_read.specs.Steps.{at_end}

pub data AtEnd (p : ℕ) (r : Reading) : Type 0 where
  cut_there : r ≡ Cut → AtEnd p r
  ends_there : (t : TermTree) → r ≡ Ended t p → AtEnd p r

pub end_of : (here : Place) (fs : List Frame) (p : ℕ) → AtEnd p (at_end here fs p)
end_of (Dotted t) fs p = ends_there t refl
end_of (Point z) [] p = ends_there (tree.Int z) refl
end_of (Point z) (f ∷ fs) p = cut_there refl
end_of Before fs p = cut_there refl
end_of (After t) fs p = cut_there refl
end_of (AfterName n) fs p = cut_there refl
end_of (AfterArity z) fs p = cut_there refl
end_of (AfterByte n) fs p = cut_there refl
end_of (AfterText cs) fs p = cut_there refl
end_of AfterSegment fs p = cut_there refl
end_of (Minus first) fs p = cut_there refl
end_of (Digits first neg m) fs p = cut_there refl
end_of (Word n) fs p = cut_there refl
end_of (Quote q inner) fs p = cut_there refl
end_of Angle fs p = cut_there refl
end_of (Sharp n) fs p = cut_there refl
end_of (Arrow k) fs p = cut_there refl
end_of Close fs p = cut_there refl
end_of Fraction fs p = cut_there refl
end_of Mark fs p = cut_there refl
end_of Signed fs p = cut_there refl
end_of Exponent fs p = cut_there refl
end_of SizeMark fs p = cut_there refl
end_of Size fs p = cut_there refl
end_of UtfMark fs p = cut_there refl
end_of (Utf n) fs p = cut_there refl
end_of Fun fs p = cut_there refl
end_of CountMark fs p = cut_there refl
end_of Count fs p = cut_there refl
