-- At one byte (01, 'Order'): the lower number, but 2 before 1, and 19, then 20, before anything of the nested function that begins there. Each by cases, as the first of its conditions;
-- and of the whole reader, what the rule comes to.
--     two_then_one             where bytes are wanted; `one-byte-more` where a number goes on
--     fourteen_first, fifteen_next     at the count of a function's instructions: 14 where it is above its own limit; 15 where it is not, and the sum is above its limit
--     not_fourteen             of a whole chunk: a count that is refused with 15 is not above its own limit
--     nineteen_then_twenty     where a nested function begins, whatever stands there: also where the file ends. (`function_enters`: that is where they are tested.)
--     nineteen_at_once, twenty_at_once     of a whole chunk: the file that ends at the place of 19 or 20 is refused so, and so it is with any bytes behind
-- (1 to 20 at one byte meet nowhere else: 4 to 12 want their bytes first, 13 to 18 their number, and a missing byte is 1.)
-- Assumes nothing.
use mathlib.Core.Path.{◌≡◌, refl, ◌∙◌, ap}
use mathlib.Core.Bool.{Bool, true, false, ◌||◌, cond}
use mathlib.Core.List.{List, [], ◌∷◌, ◌++◌}
use mathlib.Core.Option.{Option, none, some}
use Prim.Native.Nat.{ℕ, zero, suc, ◌+◌, ◌≤◌, ◌<◌, ◌^◌}
use native.Mathlib.Omega.{arith}
use native.Mathlib.Nat.{zero-add}
use lib.Dec.{leb, ltb}
use lib.ListN.{length}
use Rattle.format.specs.declared.limits.ResourceLimits.{ResourceLimits}
use Rattle.format.specs.declared.refusal.Refusal.{Refusal}
use Rattle.format.specs.declared.refusal.Refusal.TheVariants as q
use Rattle.format.specs.declared.refusal.Report.{Report}
use Rattle.format.specs.Refusals.{placed, bare, reported}
use Rattle.format.specs.Form.{Bytes}
use Rattle.format.specs.Reading.{Prototype}
use Rattle.format.specs.GrammarChunk.{Where}
use Rattle.format.specs.Read.{ok, refused, Reader, ◌>>=◌, ◌>>◌, here, refuse, test, at_most, piece, run}
use Rattle.format.specs.ReadFields.{groups, number}
use Rattle.format.specs.ReadChunk.{body, function, main}
use Rattle.read_prototype.specs.Front.{Front, front}
use Rattle.read_prototype.proofs.Flat.{in_parts}
use Rattle.demands.proofs.Causes.{cause_of, enters, LastNumber, Ends}
use Rattle.demands.proofs.Order.{in_byte_order}
use Rattle.demands.proofs.Refused.{alone, unless, first, by_reader}

-- ## 2 before 1
-- n bytes are wanted at a place
pub two_then_one : (n at : ℕ) (s : Bytes) → by_reader (run n at s) ≡ first (unless (leb n (length s) || ltb (at + n) (2 ^ 64)) (bare 2) ∷ unless (leb n (length s)) (placed 1 at) ∷ [])
two_then_one n at s = go (leb n (length s))
  where
    lacking : (fits : Bool) → by_reader {A = Bytes} (refused (cond fits (q.Truncated at) q.Overflow)) ≡ first (unless fits (bare 2) ∷ some (placed 1 at) ∷ [])
    lacking true = refl
    lacking false = refl

    go : (there : Bool) → by_reader (piece there n at s) ≡ first (unless (there || ltb (at + n) (2 ^ 64)) (bare 2) ∷ unless there (placed 1 at) ∷ [])
    go true = refl
    go false = lacking (ltb (at + n) (2 ^ 64))

-- a number goes on, and there is no byte
pub one-byte-more : (high at : ℕ) → by_reader (groups high at []) ≡ first (unless (ltb (at + 1) (2 ^ 64)) (bare 2) ∷ some (placed 1 at) ∷ [])
one-byte-more high at = go (ltb (at + 1) (2 ^ 64))
  where
    go : (fits : Bool) → by_reader {A = ℕ} (refused (cond fits (q.Truncated at) q.Overflow)) ≡ first (unless fits (bare 2) ∷ some (placed 1 at) ∷ [])
    go true = refl
    go false = refl

module _ (L : ResourceLimits) where
  -- ## 14 before 15
  -- of a function, whose count stands behind its front (source, lines and three bytes): 14; 15 where it is not 14
  module _ (r : Where → Reader (List Prototype)) (w : Where) (at : ℕ) (s : Bytes) (x : Front) (begin : ℕ) (t : Bytes) (size to : ℕ) (u : Bytes)
      (fronted : front L.max_string_bytes at s ≡ ok x begin t) (counted : number begin t ≡ ok size to u) where
    pub fourteen_first : leb size L.max_instructions_per_proto ≡ false → by_reader (body L r w at s) ≡ some (placed 14 begin)
    fourteen_first k = ap by_reader (in_parts L r w at s) ∙ (rw (fronted, counted, k))

    pub fifteen_next : leb size L.max_instructions_per_proto ≡ true → leb (w.instructions + size) L.max_total_instructions ≡ false → by_reader (body L r w at s) ≡ some (placed 15 begin)
    fifteen_next k l = ap by_reader (in_parts L r w at s) ∙ (rw (fronted, counted, k, l))

  -- of a whole chunk: the count at the place of 15 is not above the limit of 14
  pub record Within (s : Bytes) (at : ℕ) : Type 0 where
    pub front : Bytes
    pub rest : Bytes
    pub whole : s ≡ front ++ rest
    pub count : LastNumber (λ v. v ≤ L.max_instructions_per_proto) at 0 front

  pub not_fourteen : (s : Bytes) (at : ℕ) → main L 0 s ≡ refused (q.TotalInstructions at) → Within s at
  not_fourteen s at e = let d = in_byte_order L s (q.TotalInstructions at) e in record { front = d.front; rest = d.rest; whole = d.whole; count = d.ends }

  -- ## 19, then 20, then what stands there
  abbrev pub enter : ℕ → Where → Reader (List Prototype)
  enter zero w = here >>= λ place. refuse (q.NestingDepth place)
  enter (suc left) w = here >>= λ place. at_most w.number L.max_total_prototypes (q.TotalPrototypes place) >> function L left w

  pub function_enters : (left : ℕ) (w : Where) → function L left w ≡ body L (enter left) w
  unfolding function
  function_enters zero w = refl
  function_enters (suc left) w = refl

  -- no level is left
  abbrev pub too_deep : ℕ → ℕ → Option Report
  too_deep zero at = some (placed 19 at)
  too_deep (suc left) at = none

  abbrev pub inside : ℕ → Where → ℕ → Bytes → Option Report
  inside zero w at s = none
  inside (suc left) w at s = by_reader (function L left w at s)

  pub nineteen_then_twenty : (left : ℕ) (w : Where) (at : ℕ) (s : Bytes) → by_reader (enter left w at s) ≡ first (too_deep left at ∷ unless (leb w.number L.max_total_prototypes) (placed 20 at) ∷ inside left w at s ∷ [])
  nineteen_then_twenty zero w at s = refl
  nineteen_then_twenty (suc left) w at s = go (leb w.number L.max_total_prototypes) (function L left w)
    where
      go : (few : Bool) (g : Reader (List Prototype)) → by_reader ((test few (q.TotalPrototypes at) >> g) at s) ≡ first (unless few (placed 20 at) ∷ by_reader (g at s) ∷ [])
      go true g = alone (by_reader (g at s))
      go false g = refl

  -- of a whole chunk: decided by the bytes before the nested function
  pub record AtOnce (s : Bytes) (p : Refusal) (at : ℕ) : Type 0 where
    pub front : Bytes
    pub rest : Bytes
    pub whole : s ≡ front ++ rest
    pub place : at ≡ length front
    pub ends_there : main L 0 front ≡ refused p
    pub whatever : (t : Bytes) → main L 0 (front ++ t) ≡ refused p

  at_once : (s : Bytes) (p : Refusal) (at : ℕ) → cause_of L p ≡ enters at → 2 < (reported p).number → main L 0 s ≡ refused p → AtOnce s p at
  at_once s p at k h e =
      let d = in_byte_order L s p e in
      let there : Ends (enters at) 0 d.front = rw k at d.ends in
      record { front = d.front; rest = d.rest; whole = d.whole; place = there ∙ zero-add _; ends_there = d.already; whatever = d.whatever h }

  pub nineteen_at_once : (s : Bytes) (at : ℕ) → main L 0 s ≡ refused (q.NestingDepth at) → AtOnce s (q.NestingDepth at) at
  nineteen_at_once s at e = at_once s (q.NestingDepth at) at refl (omega arith) e

  pub twenty_at_once : (s : Bytes) (at : ℕ) → main L 0 s ≡ refused (q.TotalPrototypes at) → AtOnce s (q.TotalPrototypes at) at
  twenty_at_once s at e = at_once s (q.TotalPrototypes at) at refl (omega arith) e
