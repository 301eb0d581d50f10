-- The reader of whole chunks, with the limits' ceilings and the input limit, against the grammar.
--     read_sound       what is read belongs to the grammar, as it is shown
--     read-within      and then the limits are within their ceilings and the file within the input limit
--     read_complete    what belongs is read, and shown so
--     chunk_unique     a chunk has one reading
-- Assumes nothing.
use mathlib.Core.Path.{◌≡◌, refl, sym, ◌∙◌, ap}
use mathlib.Core.Bool.{Bool, true, false, cond}
use mathlib.Core.List.{List, ◌++◌}
use Prim.Native.Nat.{ℕ, ◌+◌, ◌≤◌}
use native.Mathlib.Omega.{arith}
use native.Mathlib.Nat.{zero-add}
use lib.Dec.{T, leb}
use borrow.Author.Tests.{leb-true, le-leb}
use lib.ListN.{length}
use Rattle.format.specs.declared.limits.ResourceLimits.{ResourceLimits}
use Rattle.format.specs.declared.refusal.Refusal.{Refusal}
use Rattle.format.specs.declared.refusal.Refusal.TheVariants.{InputBytes, LimitAboveCeiling}
use Rattle.format.specs.Form.{Bytes}
use Rattle.format.specs.Limits.{within_ceilings}
use Rattle.format.specs.Reading.{Reading}
use Rattle.format.specs.GrammarChunk.{Loaded, Main, reading, Chunk}
use Rattle.format.specs.Read.{Read, ok, refused}
use Rattle.format.specs.ReadChunk.{main, Outcome, shown, refusal, outcome, read}
use Rattle.format.proofs.Exact.{Split}
use Rattle.format.proofs.ExactChunk.{exact_main}

pub no_refusal : {A : Type 0} {q : Refusal} {r : Reading} → refusal q ≡ shown r → A
no_refusal e = absurd (let z : ◌≡◌ {A = ℕ} 0 1 = cc in omega arith)

record Judged (L : ResourceLimits) (chunk : Bytes) (r : Reading) : Type 0 where
  ceilings : within_ceilings L ≡ true
  input : length chunk ≤ L.max_input_bytes
  rest : outcome L (main L 0 chunk) ≡ shown r

-- the two tests of the caller's side
judged : (L : ResourceLimits) (chunk : Bytes) (r : Reading) → read L chunk ≡ shown r → Judged L chunk r
unfolding read
judged L chunk r e = first (within_ceilings L) (leb (length chunk) L.max_input_bytes) refl refl e
  where
    first : (a b : Bool) → within_ceilings L ≡ a → leb (length chunk) L.max_input_bytes ≡ b
        → cond a (cond b (outcome L (main L 0 chunk)) (refusal InputBytes)) (refusal LimitAboveCeiling) ≡ shown r → Judged L chunk r
    first true true p q e = record { ceilings = p; input = leb-true (length chunk) L.max_input_bytes q; rest = e }
    first true false p q e = no_refusal e
    first false b p q e = no_refusal e

pub read_sound : (L : ResourceLimits) (chunk : Bytes) (r : Reading) → read L chunk ≡ shown r → Chunk L chunk r
read_sound L chunk r e = from (main L 0 chunk) refl (judged L chunk r e).rest
  where
    from : (o : Read Loaded) → main L 0 chunk ≡ o → outcome L o ≡ shown r → Chunk L chunk r
    from (ok m to trailing) p e =
        let a : Split (Main L) 0 chunk m to trailing = (exact_main L).sound p in
        let place : to ≡ length a.bytes = a.place ∙ zero-add (length a.bytes) in
        let shows : reading L m to trailing ≡ r = cc in
        record { front = a.bytes; trailing = trailing; whole = a.whole; value = m; main = a.spelt; shows = rw place at shows }
    from (refused q) p e = no_refusal e

pub read-within : (L : ResourceLimits) (chunk : Bytes) (r : Reading) → read L chunk ≡ shown r → (within_ceilings L ≡ true) × (length chunk ≤ L.max_input_bytes)
read-within L chunk r e = let j = judged L chunk r e in (j.ceilings, j.input)

-- what the reader gives behind the two tests
pub main_complete : (L : ResourceLimits) (chunk : Bytes) (r : Reading) → Chunk L chunk r → outcome L (main L 0 chunk) ≡ shown r
main_complete L chunk r c = rw (c.whole, (exact_main L).complete c.trailing c.main, zero-add (length c.front), c.shows)

pub read_complete : (L : ResourceLimits) (chunk : Bytes) (r : Reading) → within_ceilings L ≡ true → length chunk ≤ L.max_input_bytes → Chunk L chunk r → read L chunk ≡ shown r
unfolding read
read_complete L chunk r p q c = rw (p, le-leb (length chunk) L.max_input_bytes q) (main_complete L chunk r c)

pub chunk_unique : (L : ResourceLimits) (chunk : Bytes) (r q : Reading) → Chunk L chunk r → Chunk L chunk q → r ≡ q
chunk_unique L chunk r q c d =
    let a = main_complete L chunk r c in
    let b = main_complete L chunk q d in
    cc
