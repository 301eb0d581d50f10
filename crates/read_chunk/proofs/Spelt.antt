-- What is known where a chunk was judged with how it is spelt.
--     was_spelt            what was shown is of a reading, and of how the chunk is spelt
--     not-spelt            what was refused is no reading
-- Assumes nothing.
use Rattle.std.specs.Prelude.{Ok, Err}
use mathlib.Core.Path.{◌≡◌, refl, ap}
use Prim.Native.Nat.{ℕ}
use native.Mathlib.Omega.{arith}
use Rattle.format.specs.declared.refusal.Refusal.{Refusal}
use Rattle.format.specs.declared.spelling.Spelling.{Spelling}
use Rattle.format.specs.Reading.{Reading}
use Rattle.format.specs.ReadChunk.{Outcome, shown, refusal}
use Rattle.read_chunk.specs.declared.summary.Summary.{Summary}
use Rattle.read_chunk.specs.Decoded.{summary_of}
use Rattle.read_chunk.specs.Inner.Decoded.{spelt_result}

pub record WasSpelt (n : Spelling) (o : Outcome) (y : Summary) (k : Spelling) : Type 0 where
  pub value : Reading
  pub is : o ≡ shown value
  pub shows : y ≡ summary_of value
  pub spelt : k ≡ n

pub was_spelt : (n : Spelling) (o : Outcome) (y : Summary) (k : Spelling) → Ok (y, k) ≡ spelt_result n o → WasSpelt n o y k
was_spelt n (shown r) y k e =
    let both : ◌≡◌ {A = Summary × Spelling} (y, k) (summary_of r, n) = cc in
    record { value = r; is = refl; shows = ap (λ p. p.0) both; spelt = ap (λ p. p.1) both }
was_spelt n (refusal q) y k e = absurd (let z : ◌≡◌ {A = ℕ} 0 1 = cc in omega arith)

pub not-spelt : (n : Spelling) (o : Outcome) (q : Refusal) → Err q ≡ spelt_result n o → o ≡ refusal q
not-spelt n (shown r) q e = absurd (let z : ◌≡◌ {A = ℕ} 0 1 = cc in omega arith)
not-spelt n (refusal p) q e = cc
