-- Laws of what is read of a file.
--     read_more       what one read gives stands behind what those before it gave
--     same_listing    a buffer that is not full holds the whole file; one that is full, of a file too long, is listed
-- as that is
-- Assumes nothing.
use Rattle.std.specs.Prelude.{ℕ, ◌+◌, ◌-◌, ◌<◌, ◌≤◌, ◌≡◌, List, ◌++◌, length, take, Option, None, Some, IfSome}
use Rattle.std.proofs.Common.{refl, sym, ap, subst, ◌∙◌, append-nil, length-append, length-take-le, arith}
use Rattle.std.proofs.Math.Logic.{⊎_elim}
use Rattle.std.proofs.Math.Seq.{take-append-add}
use Rattle.std.proofs.lemmas.Bool.{cases_lt}
use Rattle.std.proofs.lemmas.List.{take-append-le}
use Rattle.std.proofs.KnownBytes.{Consumes-trans}
use Rattle.std.specs.Io.KnownBytes.{Consumes, IsAtEnd}
use borrow.Rule.Slice.PartMut.{put_mid, post_of}
use Rattle.chunklist_listing.specs.Listing.{listing}
use Rattle.chunklist_listing.proofs.Prints.{longer_refused}

module _ (done n : ℕ) (buf ys : List ℕ) (within : done ≤ length buf) (fits : n ≤ length ys) where
  front_more : take (done + n) (put_mid done (length buf - done) buf ys) ≡ take done buf ++ take n ys
  front_more =
      subst (λ k. take (k + n) (put_mid done (length buf - done) buf ys) ≡ take done buf ++ take n ys)
      (length-take-le done buf within)
      (take-append-add (take done buf) (ys ++ post_of done (length buf - done) buf) n ∙ ap (λ l. take done buf ++ l)
      (take-append-le n ys (post_of done (length buf - done) buf) fits))

  pub read_more : (o m p : Option (List ℕ)) → Consumes o m (take done buf) → Consumes m p (take n ys) → Consumes o p
      (take (done + n) (put_mid done (length buf - done) buf ys))
  read_more o m p a b = subst (Consumes o p) (sym front_more) (Consumes-trans o m p (take done buf) (take n ys) a b)

module _ (file buf : List ℕ) (n : ℕ) (room : 49152 < length buf) (within : n ≤ length buf) where
  pub same_listing : (left : Option (List ℕ)) → Consumes (Some file) left (take n buf) → (n < length buf → IsAtEnd left)
      → listing (take n buf) ≡ listing file
  same_listing None a end = absurd a
  same_listing (Some rest) a end = ⊎_elim whole full (cases_lt n (length buf))
    where
      whole : n < length buf → listing (take n buf) ≡ listing file
      whole h = ap listing (sym (a ∙ ap (λ l. take n buf ++ l) (end h) ∙ append-nil (take n buf)))

      full : length buf ≤ n → listing (take n buf) ≡ listing file
      full h =
          longer_refused (take n buf) (omega (arith, length-take-le n buf within))
          ∙ sym (longer_refused file
          (omega (
            arith,
            ap (λ (l : List ℕ). length l) a,
            length-append (take n buf) rest,
            length-take-le n buf within,
          )))

-- where it is known what is read
pub for_known : (known : Option (List ℕ)) (P : List ℕ → Type 0) → ((file : List ℕ) → known ≡ Some file → P file)
    → IfSome known P
for_known None P f = tt
for_known (Some file) P f = f file refl
