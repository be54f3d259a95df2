-- What a crash leaves while bytes are written at one place.
use Rattle.std.proofs.Common.{ℕ, ◌≡◌, ◌≢◌, ◌<◌, List, refl, arith}
use Rattle.kh_io.specs.declared.files.Files.{Files}
use Rattle.kh_io.specs.Disk.{file_of, AreImages, Torn}
use Rattle.kh_io.specs.View.{View}
use Rattle.kh_io.specs.Frames.{OfView, Leaves}
use Rattle.kh_log.specs.Log.{IsTornOf}

-- no part of the write was done
pub torn_not : (at n : ℕ) (was : List ℕ) → Torn at n was was
torn_not at n was = record { before = refl; behind = refl; no_shorter = omega arith; no_longer = omega arith }

-- where the images of the file are outcomes of the write, and those of the others are from before
pub writing : (file at n : ℕ) (v : View) (image : ℕ → List ℕ → Type 0) → file < 4 → ((left : List ℕ) → image file left → IsTornOf (v.image file) at n left)
    → ((other : ℕ) → other < 4 → other ≢ file → (left : List ℕ) → image other left → v.image other left)
    → (files : Files) (s : ℕ) → AreImages image files → s ≡ v.stamp → Leaves file (IsTornOf (v.image file) at n) v files s
writing file at n v image lt torn others files s images stamp = record {
  own = torn (file_of files file) (images file lt);
  others = λ other below not. others other below not (file_of files other) (images other below);
  stamp = stamp;
}

-- before it
pub before_write : (file at n : ℕ) (v : View) → file < 4 → (files : Files) (s : ℕ) → OfView v files s → Leaves file (IsTornOf (v.image file) at n) v files s
before_write file at n v lt files s of =
    writing file at n v v.image lt (λ bytes image. (bytes, image, torn_not at n bytes)) (λ other below not bytes image. image) files s of.images of.stamp
