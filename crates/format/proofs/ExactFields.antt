-- The readers of fields, numbers and strings read exactly their forms.
-- Assumes nothing.
use mathlib.Core.Path.{◌≡◌, refl, sym, ◌∙◌, ap}
use mathlib.Core.Bool.{Bool, true, false, not, cond}
use mathlib.Core.List.{List, [], ◌∷◌, ◌++◌}
use mathlib.Core.Option.{Option, none, some}
use Prim.Native.Nat.{ℕ, zero, suc, ◌+◌, ◌-◌, ◌*◌, ◌%◌, ◌^◌, ◌≤◌, ◌<◌}
use native.Mathlib.Omega.{arith}
use lib.Dec.{T, ltb, ltb→lt, nltb→le}
use borrow.Author.Tests.{lt-ltb, le-ltb}
use lib.ListN.{length, length-append}
use Rattle.format.specs.declared.refusal.Refusal.TheVariants.{VarintOverflow, StringBytes}
use Rattle.format.specs.Form.{Bytes, Below, Form}
use Rattle.format.specs.GrammarFields.{Field, base128, Varint, Number, Content, String}
use Rattle.format.specs.Read.{Read, ok, refused}
use Rattle.format.specs.ReadFields.{field, groups, number, content, string}
use Rattle.format.proofs.Exact.{Exact, Split, never, exact_give, exact_here, exact_then, exact_place, exact_at_most, exact_run}

pub exact_field : (n : ℕ) → Exact (field n) (Field n)
exact_field n = exact_then (exact_run n) λ bytes. exact_give _

-- ## Numbers
ok_path : {v w to up : ℕ} {rest : Bytes} → v ≡ w → to ≡ up → ok v to rest ≡ ok w up rest
ok_path e f = cc

-- a number never falls below what its first groups make
pub grows : (more : List ℕ) (high : ℕ) → high ≤ base128 high more
grows [] high = omega arith
grows (x ∷ more) high = omega (arith, grows more (high * 128 + x))

-- the groups of a number that are still to come, behind those that make `high`
record Groups (high : ℕ) (at : ℕ) (bytes : Bytes) (v : ℕ) : Type 0 where
  more : List ℕ
  last : ℕ
  whole : bytes ≡ more ++ last ∷ []
  small : Below 128 more
  closes : 128 ≤ last
  value : v ≡ base128 high more * 128 + last % 128
  fits : v < 2 ^ 64 - 128

-- one group, by what its two tests say
module _ (high at x v to : ℕ) (s rest : Bytes) (more : Read ℕ) (later : more ≡ ok v to rest → Split (Groups (high * 128 + x)) (at + 1) s v to rest) where
  group_sound : (fits small : Bool) → (T fits → high < 2 ^ 57 - 1) → (T small → x < 128) → (T (not small) → 128 ≤ x)
      → cond fits (cond small more (ok (high * 128 + x % 128) (at + 1) s)) (refused VarintOverflow) ≡ ok v to rest → Split (Groups high) at (x ∷ s) v to rest
  group_sound true true f y n e =
      let a = later e in
      let g = a.spelt in
      record {
        bytes = x ∷ a.bytes;
        whole = ap (λ (l : Bytes). x ∷ l) a.whole;
        place = omega (arith, a.place);
        spelt = record { more = x ∷ g.more; last = g.last; whole = ap (λ (l : Bytes). x ∷ l) g.whole; small = (y tt, g.small); closes = g.closes; value = g.value; fits = g.fits };
      }
  group_sound true false f y n e =
      let h = f tt in
      let value : v ≡ high * 128 + x % 128 = cc in
      record {
        bytes = x ∷ [];
        whole = cc;
        place = cc;
        spelt = record { more = []; last = x; whole = refl; small = tt; closes = n tt; value = value; fits = omega arith };
      }
  group_sound false small f y n e = absurd (never e)

groups_sound : (s : Bytes) (high at : ℕ) {v to : ℕ} {rest : Bytes} → groups high at s ≡ ok v to rest → Split (Groups high) at s v to rest
groups_sound [] high at e = absurd (never e)
groups_sound (x ∷ s) high at {v} {to} {rest} e =
    group_sound high at x v to s rest (groups (high * 128 + x) (at + 1) s) (groups_sound s (high * 128 + x) (at + 1))
    (ltb high (2 ^ 57 - 1)) (ltb x 128) (ltb→lt high (2 ^ 57 - 1)) (ltb→lt x 128) (nltb→le x 128) e

-- what is read is not below the groups so far
pub groups_least : (s : Bytes) (high at : ℕ) {v to : ℕ} {rest : Bytes} → groups high at s ≡ ok v to rest → high * 128 ≤ v
groups_least s high at e = let g = (groups_sound s high at e).spelt in omega (arith, g.value, grows g.more high)

groups_complete : (more : List ℕ) (high at last : ℕ) (rest : Bytes) → Below 128 more → 128 ≤ last → base128 high more * 128 + last % 128 < 2 ^ 64 - 128
    → groups high at (more ++ last ∷ [] ++ rest) ≡ ok (base128 high more * 128 + last % 128) (at + suc (length more)) rest
groups_complete [] high at last rest small closes fits = rw (lt-ltb high (2 ^ 57 - 1) (omega arith), le-ltb last 128 closes) (ok_path refl (omega arith))
groups_complete (x ∷ more) high at last rest small closes fits =
    rw (lt-ltb high (2 ^ 57 - 1) (omega (arith, grows more (high * 128 + x))), lt-ltb x 128 small.0)
    (groups_complete more (high * 128 + x) (at + 1) last rest small.1 closes fits ∙ ok_path refl (omega arith))

pub exact_number : Exact number Number
exact_number = record {
  sound = λ {at} {s} e.
      let a = groups_sound s 0 at e in
      let g = a.spelt in
      record {
        bytes = a.bytes;
        whole = a.whole;
        place = a.place;
        spelt = record { more = g.more; last = g.last; whole = g.whole; small = g.small; closes = g.closes; value = g.value; fits = g.fits };
      };
  complete = λ {at} rest g. rw (g.whole, g.value)
      (groups_complete g.more 0 at g.last rest g.small g.closes (rw g.value at g.fits) ∙ ok_path refl (rw length-append (omega arith)));
}

-- ## Strings
pub exact_content : (limit first size : ℕ) → Exact (content limit first size) (Content limit size)
exact_content limit first zero = exact_give none
exact_content limit first (suc n) =
    exact_then (exact_at_most n limit (StringBytes first)) λ _. exact_then exact_here λ place. exact_then (exact_run n) λ bytes. exact_give _

pub exact_string : (limit : ℕ) → Exact (string limit) (String limit)
exact_string limit = exact_place λ first. exact_then exact_number λ size. exact_content limit first size
