-- What the readers of runs, fields, numbers and strings give, by what the code's tests say: at a place of a slice s, or behind a size.
-- Assumes nothing.
use mathlib.Core.Path.{◌≡◌, refl, ap, ◌∙◌}
use mathlib.Core.Bool.{Bool, true, false}
use mathlib.Core.List.{List, [], ◌∷◌, ◌++◌}
use mathlib.Core.Logic.{◌≢◌}
use mathlib.Core.Option.{Option, none, some}
use Prim.Native.Nat.{ℕ, zero, suc, ◌+◌, ◌-◌, ◌%◌, ◌*◌, ◌^◌, ◌≤◌, ◌<◌}
use native.Mathlib.Omega.{arith}
use native.Mathlib.Numerals.{add-one}
use native.Mathlib.Nat.{pow-suc, mul_comm, mul_assoc}
use lib.Dec.{leb}
use borrow.Author.Tests.{lt-ltb, le-ltb, le-leb, lt-leb, leb-true}
use lib.ListN.{length, take, drop, get_or, length-drop, drop_of_length-le}
use lib.Seq.{drop-cons, drop-drop, take-add, length-take-le}
use Rattle.format.specs.declared.refusal.Refusal.TheVariants.{VarintOverflow, StringBytes}
use Rattle.format.specs.Form.{Bytes}
use Rattle.format.specs.GrammarFields.{little}
use Rattle.format.specs.Read.{Read, ok, refused, next, short, piece, run}
use Rattle.format.specs.ReadFields.{field, groups, content}
use Rattle.format.proofs.Exact.{never}

-- ## Runs and fields of n bytes
module _ (n at : ℕ) (s : Bytes) where
  pub run_short : length s < n → run n at s ≡ refused (short n at)
  run_short h = rw (lt-leb n (length s) h)

  pub run_enough : n ≤ length s → run n at s ≡ ok (take n s) (at + n) (drop n s)
  run_enough h = rw (le-leb n (length s) h)

  pub field-short : length s < n → field n at s ≡ refused (short n at)
  field-short h = rw (lt-leb n (length s) h)

  pub field_enough : n ≤ length s → field n at s ≡ ok (little (take n s)) (at + n) (drop n s)
  field_enough h = rw (le-leb n (length s) h)

-- what was read is there
pub run_was : (n at : ℕ) (s : Bytes) {b : Bytes} {to : ℕ} {rest : Bytes} → run n at s ≡ ok b to rest → (n ≤ length s) × (take n s ≡ b)
run_was n at s {b} {to} {rest} e = go (leb n (length s)) refl e
  where
    go : (t : Bool) → leb n (length s) ≡ t → piece t n at s ≡ ok b to rest → (n ≤ length s) × (take n s ≡ b)
    go true t e = (leb-true n (length s) t, cc)
    go false t e = absurd (never e)

-- ## A field's value, for any width: the first byte, and 256 times the rest
pub little-next : (n at : ℕ) (s : Bytes) → at < length s → little (take (suc n) (drop at s)) ≡ get_or s at 0 + 256 * little (take n (drop (at + 1) s))
little-next n at s h = rw (drop-cons s at 0 h, add-one)

-- and of two parts, for any widths
little-append : (xs ys : Bytes) → little (xs ++ ys) ≡ little xs + 256 ^ length xs * little ys
little-append [] ys = omega arith
little-append (x ∷ xs) ys =
    let e = little-append xs ys in
    let f : 256 ^ suc (length xs) * little ys ≡ 256 * (256 ^ length xs * little ys) = rw (pow-suc 256 (length xs), mul_comm (256 ^ length xs) 256) (mul_assoc 256 (256 ^ length xs) (little ys)) in
    rw f (omega arith)

pub little_split : (m n at : ℕ) (s : Bytes) → at + m ≤ length s → little (take (m + n) (drop at s)) ≡ little (take m (drop at s)) + 256 ^ m * little (take n (drop (at + m) s))
little_split m n at s h =
    let size : length (take m (drop at s)) ≡ m = length-take-le m (drop at s) (rw length-drop (omega arith)) in
    ap little (take-add m n (drop at s)) ∙ little-append (take m (drop at s)) (take n (drop m (drop at s))) ∙ rw (size, drop-drop)

-- ## One turn of the loop over a number's bytes, at the index i of a slice
module _ (s : Bytes) (i high : ℕ) where
  pub groups-short : length s ≤ i → groups high i (drop i s) ≡ refused (short 1 i)
  groups-short h = rw (drop_of_length-le s h)

  module _ (h : i < length s) where
    pub groups_overflow : 2 ^ 57 - 1 ≤ high → groups high i (drop i s) ≡ refused VarintOverflow
    groups_overflow k = rw (drop-cons s i 0 h, le-ltb high (2 ^ 57 - 1) k)

    -- in the code's terms: x is the byte at i
    module _ (x : ℕ) (byte : x ≡ get_or s i 0) (k : high < 2 ^ 57 - 1) where
      pub groups-last : 128 ≤ x → x < 256 → groups high i (drop i s) ≡ ok (high * 128 + (x - 128)) (i + 1) (drop (i + 1) s)
      groups-last l m =
          let e : x - 128 ≡ x % 128 = omega arith in
          rw (drop-cons s i 0 h, ← byte, lt-ltb high (2 ^ 57 - 1) k, le-ltb x 128 l, add-one, e)

      pub groups-more : x < 128 → groups high i (drop i s) ≡ groups (high * 128 + x) (i + 1) (drop (i + 1) s)
      groups-more l = rw (drop-cons s i 0 h, ← byte, lt-ltb high (2 ^ 57 - 1) k, lt-ltb x 128 l, add-one)

-- ## Behind a string's size
module _ (limit first size to : ℕ) (s : Bytes) where
  pub content-none : size ≡ 0 → content limit first size to s ≡ ok none to s
  content-none e = rw e

  pub content-long : size ≢ 0 → limit < size - 1 → content limit first size to s ≡ refused (StringBytes first)
  content-long = go size
    where
      go : (size : ℕ) → size ≢ 0 → limit < size - 1 → content limit first size to s ≡ refused (StringBytes first)
      go zero n l = absurd (n refl)
      go (suc k) n l = rw (lt-leb k limit (omega arith))

  -- within the limit: the run decides
  pub content-run : size ≢ 0 → size - 1 ≤ limit → content limit first size to s ≡ next (run (size - 1) to s) (λ bytes up rest. ok (some (record { place = to; bytes = bytes })) up rest)
  content-run = go size
    where
      go : (size : ℕ) → size ≢ 0 → size - 1 ≤ limit → content limit first size to s ≡ next (run (size - 1) to s) (λ bytes up rest. ok (some (record { place = to; bytes = bytes })) up rest)
      go zero n l = absurd (n refl)
      go (suc k) n l =
          let e : suc k - 1 ≡ k = omega arith in
          rw (e, le-leb k limit (omega arith))
