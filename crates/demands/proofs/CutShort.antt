-- A file that is refused with 1 is cut short: at the refusal's place more bytes are wanted than there are; with more, but fewer than these, it is still refused so, and with as many it is not 1 at that place.
--     cut_short            of the reader of a chunk (`Lack`: InOrder.antt)
--     read-cut-short       of what every call begins with
--     overflow_far         2 is met behind byte 128 alone, where place plus size can be 2^64
--     not-all-cut-short    a reader that calls what it refuses cut short at a fixed place, though nothing is missing, is not so
-- (Continued.antt: and some bytes behind end it. A reader that calls every file cut short where it ends lacks bytes in this sense, but does not continue.)
-- Assumes nothing.
use mathlib.Core.Path.{◌≡◌, refl, sym, ◌∙◌, ap}
use mathlib.Core.Bool.{true}
use mathlib.Core.List.{[], ◌∷◌, ◌++◌}
use Prim.Native.Nat.{ℕ, ◌+◌, ◌≤◌, ◌<◌}
use native.Mathlib.Omega.{arith}
use lib.ListN.{length, replicate, length-replicate}
use Rattle.format.specs.declared.limits.ResourceLimits.{ResourceLimits}
use Rattle.format.specs.declared.refusal.Refusal.TheVariants.{Truncated, Overflow}
use Rattle.format.specs.Form.{Bytes}
use Rattle.format.specs.Limits.{within_ceilings}
use Rattle.format.specs.Read.{Read, ok, refused, Reader, ◌>>=◌, at_most}
use Rattle.format.specs.ReadFields.{number}
use Rattle.format.specs.GrammarChunk.{Loaded}
use Rattle.format.specs.ReadChunk.{Outcome, refusal, outcome, main, read}
use Rattle.demands.proofs.Causes.{ordinary}
use Rattle.demands.proofs.InOrder.{Past, Lack, steady_main}
use Rattle.demands.proofs.Order.{by_main, by_refusal}

pub cut_short : (L : ResourceLimits) (s : Bytes) (place : ℕ) → main L 0 s ≡ refused (Truncated place) → Lack (main L) 0 s place
cut_short L s place e = (steady_main {of = ordinary} {low = 0} L).lacks 0 s place (omega arith) e

pub overflow_far : (L : ResourceLimits) (s : Bytes) → main L 0 s ≡ refused Overflow → 128 < length s
overflow_far L s e = let h = (steady_main {of = ordinary} {low = 0} L).overflows 0 s (omega arith) e in omega arith

-- a reading that is begun with limits and bytes; neither 21 nor 22
pub record MissingBy (reads : ResourceLimits → Bytes → Outcome) (L : ResourceLimits) (s : Bytes) (place : ℕ) : Type 0 where
  pub wanted : ℕ
  pub fewer : length s < place + wanted
  pub still : (t : Bytes) → length (s ++ t) < place + wanted → length (s ++ t) ≤ L.max_input_bytes → reads L (s ++ t) ≡ refusal (Truncated place)
  pub enough : (t : Bytes) → place + wanted ≤ length (s ++ t) → length (s ++ t) ≤ L.max_input_bytes → reads L (s ++ t) ≡ refusal (Truncated place) → ⊥

abbrev pub Missing : ResourceLimits → Bytes → ℕ → Type 0
Missing L s place = MissingBy read L s place

-- where it is what its reader gives
pub cut-short_by : (L : ResourceLimits) (reads : ResourceLimits → Bytes → Outcome) (r : Reader Loaded) → ((s : Bytes) → length s ≤ L.max_input_bytes → reads L s ≡ outcome L (r 0 s))
    → ((s : Bytes) (place : ℕ) → r 0 s ≡ refused (Truncated place) → Lack r 0 s place) → (s : Bytes) (place : ℕ) → length s ≤ L.max_input_bytes → reads L s ≡ refusal (Truncated place) → MissingBy reads L s place
cut-short_by L reads r by lacks s place short e =
    let l = lacks s place (by_refusal L (Truncated place) (r 0 s) (sym (by s short) ∙ e)) in
    let fewer = l.fewer in
    record {
      wanted = l.wanted;
      fewer = omega arith;
      still = λ t h fits. by (s ++ t) fits ∙ ap (outcome L) (l.still t (omega arith));
      enough = λ t h fits again. other (r 0 (s ++ t)) (l.enough t (omega arith)) (by_refusal L (Truncated place) (r 0 (s ++ t)) (sym (by (s ++ t) fits) ∙ again));
    }
  where
    other : {A : Type 0} (o : Read A) → Past place o → o ≡ refused (Truncated place) → ⊥
    other (ok x to rest) k e = let z : ◌≡◌ {A = ℕ} 0 1 = cc in omega arith
    other (refused q) k e = k cc

pub read-cut-short : (L : ResourceLimits) → within_ceilings L ≡ true → (s : Bytes) (place : ℕ) → length s ≤ L.max_input_bytes → read L s ≡ refusal (Truncated place) → Missing L s place
read-cut-short L within = cut-short_by L read (main L) (by_main L within) (cut_short L)

-- ## A wrong reader
-- a number above 0 is called cut short
abbrev pub all_cut_short : Reader (Unit {0})
all_cut_short = number >>= λ n. at_most n 0 (Truncated 0)

pub not-all-cut-short : ((s : Bytes) (place : ℕ) → all_cut_short 0 s ≡ refused (Truncated place) → Lack all_cut_short 0 s place) → ⊥
not-all-cut-short lacks = let l = lacks (0x81 ∷ []) 0 refl in l.enough (replicate l.wanted 0) (long l.wanted) refl
  where
    long : (n : ℕ) → 0 + n ≤ 0 + length {A = ℕ} (0x81 ∷ replicate n 0)
    long n = let l = length-replicate {A = ℕ} n 0 in omega arith
