-- How long the copy's bytes are of what stands between two places: at most twice as long. And where the entries of a list stand.
--     Short b at to        the bytes b are the copy of what stands from `at` to `to`
--     short_then           two, the second right behind the first
--     short-..             the reader of each part
-- Assumes nothing.
use mathlib.Core.Path.{◌≡◌, ◌∙◌, ap}
use mathlib.Core.Bool.{Bool, true, false}
use mathlib.Core.List.{[], ◌∷◌, ◌++◌, map, flatten}
use mathlib.Core.Option.{Option, none, some, get_or}
use Prim.Native.Nat.{ℕ, zero, suc, ◌-◌, ◌*◌, ◌≤◌}
use native.Mathlib.Omega.{arith}
use lib.Dec.{eqb, leb, lit≤}
use lib.ListN.{length, drop, length-append, length-drop}
use lib.Seq.{length-take-le}
use Rattle.format.specs.declared.refusal.Refusal.{Refusal}
use Rattle.format.specs.declared.refusal.Refusal.TheVariants.{StringBytes}
use Rattle.format.specs.Form.{Bytes, Below, Form}
use Rattle.format.specs.GrammarFields.{LuaString}
use Rattle.format.specs.GrammarChunk.{Listed}
use Rattle.format.specs.Read.{ok, Reader, ◌>>=◌, give, here, test, at_most, many}
use Rattle.format.specs.ReadFields.{number, content, string}
use Rattle.format.specs.ReadChunk.{counted, counted_up_to, always, constant, anchor, local}
use Rattle.format.specs.Shortest.{shortest}
use Rattle.format.specs.Copy.{field_bytes, string_bytes, option_bytes, constant_bytes, anchor_bytes, local_bytes, list_bytes}
use Rattle.format.proofs.Exact.{Exact, never, exact_at_most, exact_run, exact_many}
use Rattle.format.proofs.ExactFields.{exact_field, exact_number, exact_string}
use Rattle.format.proofs.ExactChunk.{exact_always}
use Rattle.format.proofs.ShortestLaws.{shortest_least, length-zero}
use Rattle.format.proofs.Located.{Found, AtPlace, at_give, at_here, at_then, at-refuse}
use Rattle.read_list.proofs.Listing.{many_sized}
use Rattle.copy_entry.proofs.Entries.{Raw, at-run, raw_field}
use Rattle.copy_entry.proofs.Values.{at_pick}

pub record Short (b : Bytes) (at to : ℕ) : Type 0 where
  pub on : at ≤ to
  pub short : length b ≤ 2 * (to - at)

pub short_then : {a b : Bytes} {at mid to : ℕ} → Short a at mid → Short b mid to → Short (a ++ b) at to
short_then {a} {b} h k = record { on = omega (arith, h.on, k.on); short = rw length-append (omega (arith, h.on, k.on, h.short, k.short)) }

pub short_none : {at : ℕ} → Short [] at at
short_none = record { on = omega arith; short = omega arith }

-- ## Fields
pub short-number : {s : Bytes} {at : ℕ} → AtPlace s at number (λ to v. Short (shortest v) at to)
short-number {s} {at} = record {
  holds = λ {x} {to} e.
      let z = exact_number.sound {at = at} {s = drop at s} e in
      let least = shortest_least at x z.bytes z.spelt in
      let place = z.place in
      record { on = omega arith; short = omega arith };
}

pub raw_short : {A : Type 0} {s : Bytes} {enc : A → Bytes} {width at to : ℕ} {x : A} → Raw s enc width at to x → Short (enc x) at to
raw_short {s} {width} {at} h =
    let size = ap length h.same ∙ length-take-le width (drop at s) (rw length-drop h.inside) in
    record { on = omega (arith, h.place); short = omega (arith, h.place, size) }

-- a test does not move
pub stays : {s : Bytes} {at : ℕ} (n m : ℕ) (q : Refusal) → AtPlace s at (at_most n m q) (λ to _. to ≡ at)
stays {s} {at} n m q = record { holds = λ e. from (leb n m) e }
  where
    from : {x : Unit {0}} {to : ℕ} {rest : Bytes} (b : Bool) → test b q at (drop at s) ≡ ok x to rest → to ≡ at
    from true e = cc
    from false e = absurd (never e)

-- ## Strings
short-content : {s : Bytes} (limit first at size mid : ℕ) → Short (shortest size) at mid → AtPlace s mid (content limit first size) (λ to t. Short (option_bytes t) at to)
short-content limit first at zero mid h = at_give h
short-content {s} limit first at (suc n) mid h =
    at_then (exact_at_most n limit (StringBytes first)) (stays n limit (StringBytes first)) λ _ mid' same.
    at_here λ place.
    at_then (exact_run n) (at-run n) λ bytes to k.
    at_give λ _.
    (let size : length bytes ≡ n = ap length k.same ∙ length-take-le n (drop mid' s) (rw length-drop k.inside) in
    let front : Short (shortest (suc (length bytes))) at mid' = rw (size, same) h in
    short_then front (raw_short k))

pub short_string : {s : Bytes} {at : ℕ} (limit : ℕ) → AtPlace s at (string limit) (λ to t. Short (option_bytes t) at to)
short_string {s} {at} limit = record { holds = λ e. (at_then {s = s} {at = at} exact_number short-number λ size mid h. short-content limit at at size mid h).holds e }

-- an absent one is written as another, of at most one byte
short-always : {s : Bytes} {at : ℕ} (limit : ℕ) (instead : Bytes) → length (shortest (suc (length instead)) ++ instead) ≤ 2 → AtPlace s at (always limit instead) (λ to t. Short (string_bytes t) at to)
short-always {s} {at} limit instead few = at_then (exact_string limit) (short_string limit) λ t mid h. at_here λ place. at_give λ _. from t place mid h
  where
    from : (t : Option LuaString) (place mid : ℕ) → Short (option_bytes t) at mid → Short (string_bytes (get_or t (record { place = place; bytes = instead }))) at mid
    from none place mid h = record { on = h.on; short = omega (arith, few, h.short, h.on, length-zero) }
    from (some t) place mid h = h

-- ## Entries
pub short-anchor : {s : Bytes} (at : ℕ) → AtPlace s at anchor (λ to a. Short (anchor_bytes a) at to)
short-anchor at = at_then exact_number short-number λ pc _ h. at_then exact_number short-number λ line _ k. at_give (short_then h k)

pub short-local : {s : Bytes} (limit at : ℕ) → AtPlace s at (local limit) (λ to l. Short (local_bytes l) at to)
unfolding shortest
short-local limit at =
    at_then (exact_always limit (63 ∷ [])) (short-always limit (63 ∷ []) (lit≤ tt)) λ name _ h.
    at_then exact_number short-number λ startpc _ k.
    at_then exact_number short-number λ endpc _ m.
    at_give (short_then h (short_then k m))

module _ (s : Bytes) (bytes : Below 256 s) where
  tag_short : {at mid tag : ℕ} (n : ℕ) → Raw s (field_bytes 1) 1 at mid tag → Short (field_bytes 1 n) at mid
  tag_short n h = let z = raw_short h in record { on = z.on; short = z.short }

  pub short_constant : (limit at : ℕ) → AtPlace s at (constant limit) (λ to k. Short (constant_bytes k) at to)
  unfolding shortest
  short_constant limit at =
      at_here λ place.
      at_then (exact_field 1) (raw_field s bytes 1 at) λ tag mid h.
      at_pick (eqb tag 0) (λ _. at_give λ _. tag_short 0 h) λ _.
      at_pick (eqb tag 1) (λ _. at_give λ _. tag_short 1 h) λ _.
      at_pick (eqb tag 17) (λ _. at_give λ _. tag_short 17 h) λ _.
      at_pick (eqb tag 3) (λ _. at_then (exact_field 8) (raw_field s bytes 8 mid) λ n _ k. at_give λ _. short_then (tag_short 3 h) (raw_short k)) λ _.
      at_pick (eqb tag 19) (λ _. at_then (exact_field 8) (raw_field s bytes 8 mid) λ n _ k. at_give λ _. short_then (tag_short 19 h) (raw_short k)) λ _.
      at_pick (eqb tag 4) (λ _. at_then (exact_always limit []) (short-always limit [] (lit≤ tt)) λ t _ k. at_give λ _. short_then (tag_short 4 h) k) λ _.
      at_pick (eqb tag 20) (λ _. at_then (exact_always limit []) (short-always limit [] (lit≤ tt)) λ t _ k. at_give λ _. short_then (tag_short 20 h) k) λ _.
      at-refuse

-- ## Lists
short-many : {A : Type 0} {s : Bytes} {r : Reader A} {F : Form A} {enc : A → Bytes} → Exact r F → ((at : ℕ) → AtPlace s at r (λ to x. Short (enc x) at to)) → (n at : ℕ) → AtPlace s at (many n r) (λ to xs. Short (flatten (map enc xs)) at to)
unfolding flatten
short-many exact one zero at = at_give short_none
short-many exact one (suc n) at = at_then exact (one at) λ x _ h. at_then (exact_many n exact) (short-many exact one n _) λ xs _ k. at_give (short_then h k)

-- a list behind its count, with its entries found at its place
pub record Listing {A : Type 0} (s : Bytes) (r : Reader A) (enc : A → Bytes) (at to : ℕ) (l : Listed A) : Type 0 where
  pub short : Short (list_bytes enc l.items) at to
  pub found : Found s (many (length l.items) r) l.place l.items

module _ {A : Type 0} {s : Bytes} {r : Reader A} {F : Form A} {enc : A → Bytes} (exact : Exact r F) (one : (at : ℕ) → AtPlace s at r (λ to x. Short (enc x) at to)) where
  -- behind the count n, which stands from `at` to `mid`
  pub listed : (at mid n : ℕ) → Short (shortest n) at mid → AtPlace s mid (here >>= λ place. many n r >>= λ items. give (record { place = place; items = items })) (λ to l. Listing s r enc at to l)
  unfolding list_bytes
  listed at mid n h = record { holds = λ e. whole.holds e }
    where
      items : AtPlace s mid (many n r) (λ to xs. (Short (flatten (map enc xs)) mid to) × (Found s (many n r) mid xs) × (length xs ≡ n))
      items = record { holds = λ {x} {to} {rest} e. ((short-many exact one n mid).holds e, record { to = to; rest = rest; is = e }, (many_sized exact n).size mid (drop mid s) e) }

      whole : AtPlace s mid (many n r >>= λ items. give (record { place = mid; items = items })) (λ to l. Listing s r enc at to l)
      whole = at_then (exact_many n exact) items λ xs to k. at_give (record { short = short_then {a = shortest (length xs)} (rw k.2 h) k.0; found = rw k.2 k.1 })

  pub counted-at : (at : ℕ) → AtPlace s at (counted r) (λ to l. Listing s r enc at to l)
  counted-at at = at_then exact_number short-number λ n mid h. listed at mid n h

  pub up_to-at : (limit : ℕ) (refusal : ℕ → Refusal) (at : ℕ) → AtPlace s at (counted_up_to limit refusal r) (λ to l. Listing s r enc at to l)
  up_to-at limit refusal at =
      at_here λ first.
      at_then exact_number short-number λ n mid h.
      at_then (exact_at_most n limit (refusal first)) (stays n limit (refusal first)) λ _ mid' same.
      later (listed at mid' n (rw same h))
    where
      later : {q : Reader (Listed A)} {mid first : ℕ} → AtPlace s mid q (λ to l. Listing s r enc at to l) → AtPlace s mid q (λ to l. first ≡ at → Listing s r enc at to l)
      later h = record { holds = λ e _. h.holds e }
