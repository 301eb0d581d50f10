-- An entry of a list, by its number.
--     many_nth     of items that are read at a place, passing over i of them and reading one gives item i
--     run_nth      the same of a run of bytes
--     local_nth    the same of local variables, of which the name is read as it is spelt
-- Assumes nothing.
use mathlib.Core.Path.{◌≡◌, refl, sym, ◌∙◌, ap}
use mathlib.Core.List.{List, [], ◌∷◌}
use mathlib.Core.Option.{none, some}
use Prim.Native.Nat.{ℕ, zero, suc, ◌+◌, ◌*◌, ◌<◌}
use native.Mathlib.Omega.{arith}
use lib.ListN.{length, take, drop, get_elem?}
use Rattle.format.specs.Form.{Bytes}
use Rattle.format.specs.Read.{Read, ok, refused, Reader, next, ◌>>=◌, give, run, many}
use Rattle.format.specs.ReadFields.{byte}
use Rattle.format.specs.ReadChunk.{local}
use Rattle.format.specs.Reading.{LocalVar}
use Rattle.format.proofs.Exact.{never}
use Rattle.format.proofs.Steps.{run_enough, run_was, field_enough}
use Rattle.format.proofs.Located.{Found}
use Rattle.read_entry.specs.Readers.{RawLocal, raw_local}
use Rattle.read_entry.specs.Inner.Counts.{named}
use Rattle.read_entry.proofs.DebugInfo.{local-named}
use Rattle.read_nth.specs.Inner.Nth.{entry_at, byte_at, local_at}

-- what a reader gives, with the rest left open
record Gives {A : Type 0} (o : Read A) (x : A) : Type 0 where
  to : ℕ
  rest : Bytes
  is : o ≡ ok x to rest

not_none : {A : Type 0} {x : A} {P : Type 0} → none ≡ some x → P
not_none e = absurd (let z : ◌≡◌ {A = ℕ} 0 1 = cc in omega arith)

-- of the items passed over only the end counts
one-passed : {A B : Type 0} (y : A) (o : Read (List A)) (f : Reader B) → next (next o (λ ys. give (y ∷ ys))) (λ _. f) ≡ next o (λ _. f)
one-passed y (ok ys to rest) f = refl
one-passed y (refused q) f = refl

-- items of which there is a first
record Split {A : Type 0} (r : Reader A) (n at : ℕ) (s : Bytes) (xs : List A) : Type 0 where
  head : A
  mid : ℕ
  behind : Bytes
  tail : List A
  first : r at s ≡ ok head mid behind
  others : Gives (many n r mid behind) tail
  is : xs ≡ head ∷ tail

split : {A : Type 0} (r : Reader A) (n at : ℕ) (s : Bytes) {xs : List A} → Gives (many (suc n) r at s) xs → Split r n at s xs
split {A} r n at s {xs} g = first (r at s) refl g.is
  where
    rest : (y : A) (mid : ℕ) (t : Bytes) → r at s ≡ ok y mid t → (o : Read (List A)) → many n r mid t ≡ o → next o (λ ys. give (y ∷ ys)) ≡ ok xs g.to g.rest → Split r n at s xs
    rest y mid t p (ok ys to b) q e = record { head = y; mid = mid; behind = t; tail = ys; first = p; others = record { to = to; rest = b; is = q }; is = cc }
    rest y mid t p (refused z) q e = absurd (never e)

    first : (o : Read A) → r at s ≡ o → next o (λ y. many n r >>= λ ys. give (y ∷ ys)) ≡ ok xs g.to g.rest → Split r n at s xs
    first (ok y mid t) p e = rest y mid t p (many n r mid t) refl e
    first (refused z) p e = absurd (never e)

module _ {A : Type 0} (r : Reader A) where
  -- passing over one item more
  onward : (i at : ℕ) (s : Bytes) {y : A} {mid : ℕ} {t : Bytes} → r at s ≡ ok y mid t → entry_at (suc i) r at s ≡ entry_at i r mid t
  onward i at s {y} {mid} {t} e = ap (λ o. next (next o (λ y. many i r >>= λ ys. give (y ∷ ys))) (λ _. r)) e ∙ one-passed y (many i r mid t) r

  nth_read : (n i at : ℕ) (s : Bytes) {xs : List A} → Gives (many n r at s) xs → {x : A} → get_elem? xs i ≡ some x → Gives (entry_at i r at s) x
  nth_read zero i at s {xs} g found = not_none (let e = g.is in let z : xs ≡ [] = cc in rw z at found)
  nth_read (suc n) zero at s {xs} g {x} found =
      let p = split r n at s g in
      let same : p.head ≡ x = let e = p.is in let f = rw e at found in cc in
      record { to = p.mid; rest = p.behind; is = p.first ∙ ap (λ y. ok y p.mid p.behind) same }
  nth_read (suc n) (suc i) at s {xs} g {x} found =
      let p = split r n at s g in
      let f : get_elem? p.tail i ≡ some x = rw p.is at found in
      let later = nth_read n i p.mid p.behind p.others f in
      record { to = later.to; rest = later.rest; is = onward i at s p.first ∙ later.is }

  pub many_nth : {s : Bytes} (n : ℕ) {at : ℕ} {xs : List A} → Found s (many n r) at xs → (i : ℕ) {x : A} → get_elem? xs i ≡ some x → Found s (entry_at i r) at x
  many_nth {s} n {at} {xs} f i {x} found =
      let g = nth_read n i at (drop at s) (record { to = f.to; rest = f.rest; is = f.is }) found in
      record { to = g.to; rest = g.rest; is = g.is }

-- ## A run of bytes
nth_drop : (i : ℕ) (t : Bytes) {x : ℕ} → get_elem? t i ≡ some x → drop i t ≡ x ∷ drop (suc i) t
nth_drop i [] e = not_none e
nth_drop zero (y ∷ t) {x} e = let same : y ≡ x = cc in ap (λ z. z ∷ t) same
nth_drop (suc i) (y ∷ t) e = nth_drop i t e

nth_below : (i : ℕ) (t : Bytes) {x : ℕ} → get_elem? t i ≡ some x → i < length t
nth_below i [] e = not_none e
nth_below zero (y ∷ t) e = omega arith
nth_below (suc i) (y ∷ t) e = let below = nth_below i t e in omega arith

nth_take : (n i : ℕ) (t : Bytes) {x : ℕ} → get_elem? (take n t) i ≡ some x → get_elem? t i ≡ some x
nth_take zero i t e = not_none e
nth_take (suc n) i [] e = not_none e
nth_take (suc n) zero (y ∷ t) e = e
nth_take (suc n) (suc i) (y ∷ t) e = nth_take n i t e

byte-read : (i at : ℕ) (t : Bytes) {x : ℕ} → get_elem? t i ≡ some x → Gives (byte_at i at t) x
byte-read i at t {x} e =
    let below = nth_below i t e in
    let one : byte (at + i) (x ∷ drop (suc i) t) ≡ ok (x + 256 * 0) (at + i + 1) (drop (suc i) t) = field_enough 1 (at + i) (x ∷ drop (suc i) t) (omega arith) in
    let value : x + 256 * 0 ≡ x = omega arith in
    record {
      to = at + i + 1;
      rest = drop (suc i) t;
      is = ap (λ o. next o (λ _. byte)) (run_enough i at t (omega arith)) ∙ ap (λ u. byte (at + i) u) (nth_drop i t e) ∙ one ∙ ap (λ n. ok n (at + i + 1) (drop (suc i) t)) value;
    }

pub run_nth : {s : Bytes} (n : ℕ) {at : ℕ} {xs : Bytes} → Found s (run n) at xs → (i : ℕ) {x : ℕ} → get_elem? xs i ≡ some x → Found s (byte_at i) at x
run_nth {s} n {at} {xs} f i {x} found =
    let g = byte-read i at (drop at s) (nth_take n i (drop at s) (rw (← (run_was n at (drop at s) f.is).1) at found)) in
    record { to = g.to; rest = g.rest; is = g.is }

-- ## Local variables
-- the local variable that was read, with its name as it is spelt
pub record LocalFound (s : Bytes) (i limit at : ℕ) (l : LocalVar) : Type 0 where
  pub raw : RawLocal
  pub found : Found s (local_at i limit) at raw
  pub is : named raw ≡ l

-- what stood before the name was made good
record Spelt (o : Read RawLocal) (l : LocalVar) : Type 0 where
  raw : RawLocal
  gives : Gives o raw
  is : named raw ≡ l

spelt : (o : Read RawLocal) {l : LocalVar} {to : ℕ} {rest : Bytes} → next o (λ l. give (named l)) ≡ ok l to rest → Spelt o l
spelt (ok raw to rest) e = record { raw = raw; gives = record { to = to; rest = rest; is = refl }; is = cc }
spelt (refused q) e = absurd (never e)

pub local_nth : {s : Bytes} (n limit : ℕ) {at : ℕ} {ls : List LocalVar} → Found s (many n (local limit)) at ls → (i : ℕ) {l : LocalVar} → get_elem? ls i ≡ some l → LocalFound s i limit at l
local_nth {s} n limit {at} f i {l} found = go (many i (local limit) at (drop at s)) refl (many_nth (local limit) n f i found)
  where
    go : (o : Read (List LocalVar)) → many i (local limit) at (drop at s) ≡ o → Found s (entry_at i (local limit)) at l → LocalFound s i limit at l
    go (ok before mid t) p g =
        let here = ap (λ o. next o (λ _. local limit)) p in
        let raw = spelt (raw_local limit mid t) (sym (local-named limit mid t) ∙ sym here ∙ g.is) in
        record { raw = raw.raw; found = record { to = raw.gives.to; rest = raw.gives.rest; is = ap (λ o. next o (λ _. raw_local limit)) p ∙ raw.gives.is }; is = raw.is }
    go (refused q) p g = absurd (never (sym (ap (λ o. next o (λ _. local limit)) p) ∙ g.is))
