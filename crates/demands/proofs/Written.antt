-- What the copying calls write: at the front of the lent space as many bytes as they answer. Said once, by what the copy of a reading is: the archive copy (`encode_chunk_lua54`), or the full copy (`full_copy`).
--     Copying L chunk old r new    all that holds after a call of `encode_chunk_lua54` on the chunk under L, lent space that held `old`: its answer is r, the space then holds `new`.
--                                  Two equations are its contract (crates/copy/src/lib.rt); that the chunk is bytes is the law of slices (`Slices.antt`)
--     FullCopying                  the same of `full_copy` (crates/copy_full/src/lib.rt)
--     copying_met, full_copying_met    the code meets the contract that says so, for every input
--     Writes L chunk old b         a call on the chunk under L, lent space that held `old`, answers a length, and so many bytes at the front are then b
--     FullWrites                   the same of `full_copy`
--     by_reading, written-is_by    these bytes are the copy of the chunk's reading
--     writes_by                    a chunk that is read has its copy written wherever there is room
-- Assumes nothing.
use Rattle.std.specs.Prelude.{Result, Ok, Err}
use Rattle.format.specs.declared.refusal.Refusal.{Refusal}
use mathlib.Core.Path.{◌≡◌, refl, sym, ◌∙◌, ap}
use mathlib.Core.Bool.{Bool, true, false, cond}
use mathlib.Core.List.{[], ◌++◌}
use Prim.Native.Nat.{ℕ, ◌≤◌}
use native.Mathlib.Omega.{arith}
use types.Logic.{Logic}
use borrow.Author.Tests.{le-leb}
use lib.Dec.{leb}
use lib.ListN.{length, take, drop}
use lib.Seq.{take-append_seam}
use seplogic.Ra.Ura.{Ura}
use base.Logic.{ent, sep, emp, fst∗, snd∗}
use prog.Model.{Model}
use prog.Wired.{Wired}
use contract.Monad.{fact, fact_i, fact_use}
use contract.Running.{Running}
use denote.Triple.Spec.{Meets, exits}
use Rattle.format.specs.declared.limits.ResourceLimits.{ResourceLimits}
use Rattle.format.specs.declared.refusal.Refusal.TheVariants.{LentSpace}
use Rattle.format.specs.Form.{Bytes, Below}
use Rattle.format.specs.Reading.{Reading}
use Rattle.format.specs.ReadChunk.{Outcome, shown, refusal, read}
use Rattle.format.specs.Copy.{copy}
use Rattle.format.specs.FullCopy.{full_copy}
use Rattle.copy.specs.Copied.{shown_by, written_by}
use Rattle.copy.specs.contracts.encode_chunk_lua54 as call
use Rattle.copy.proofs.encode_chunk_lua54.Symbol as symbol
use Rattle.copy.proofs.encode_chunk_lua54.Met as theorem
use Rattle.copy_full.specs.contracts.full_copy as full-call
use Rattle.copy_full.proofs.full_copy.Symbol as full-symbol
use Rattle.copy_full.proofs.full_copy.Met as full-theorem
use Rattle.demands.proofs.Slices.{bytes_known}

-- ## A call
pub record CopyingBy (copied : Reading → Bytes) (L : ResourceLimits) (chunk old : Bytes) (r : Result ℕ Refusal) (new : Bytes) : Type 0 where
  pub below : Below 256 chunk
  pub answers : r ≡ shown_by copied (length old) (read L chunk)
  pub leaves : new ≡ written_by copied old (read L chunk)

abbrev pub Copying : ResourceLimits → Bytes → Bytes → Result ℕ Refusal → Bytes → Type 0
Copying = CopyingBy copy

abbrev pub FullCopying : ResourceLimits → Bytes → Bytes → Result ℕ Refusal → Bytes → Type 0
FullCopying = CopyingBy full_copy

-- two facts that hold of a piece of memory, as one
pub both : {M : Type 1} (𝓤 : Ura M) (φ ψ χ : Type 0) → (φ → ψ → χ) → ent 𝓤 (sep 𝓤 (fact 𝓤 φ) (fact 𝓤 ψ)) (fact 𝓤 χ)
both 𝓤 φ ψ χ k =
    fact_use 𝓤 φ (fst∗ 𝓤 (fact 𝓤 φ) (fact 𝓤 ψ)) (λ f.
    fact_use 𝓤 ψ (snd∗ 𝓤 (fact 𝓤 φ) (fact 𝓤 ψ)) (λ g. fact_i 𝓤 χ (sep 𝓤 (fact 𝓤 φ) (fact 𝓤 ψ)) (k f g)))

pub copying_met : {M : Type 1} {𝓤 : Ura M} (𝓛 : Logic 𝓤) (𝓜 : Model 𝓤 𝓛.H) (𝓡 : Running 𝓤 𝓛.H 𝓜) → Wired 𝓡.env symbol.code
    → Meets 𝓛 call.signature (𝓡.run (𝓡.env symbol.name)) (λ κs a. record {
      ghost = Unit {0};
      requires = λ _. emp 𝓤;
      ensures = λ _ r. exits 𝓛 call.signature (call.ended).kept κs a (λ end. fact 𝓤 (Copying a.1.0 a.0.now a.1.1.0.now r end.1.1.0.now));
    })
copying_met {𝓤 = 𝓤} 𝓛 𝓜 𝓡 wired =
    bytes_known 𝓛 𝓜 𝓡 (𝓡.env symbol.name) 1 [] _ _ (call.ended).kept (call.clauses 𝓛 𝓜.mem 𝓡.returns) (λ κs a _ r end. fact 𝓤 (Copying a.1.0 a.0.now a.1.1.0.now r end.1.1.0.now))
    (λ κs a _ r end below. both 𝓤 _ _ _ (λ answers leaves. record { below = below; answers = answers; leaves = leaves }))
    (theorem.met 𝓤 𝓛 𝓜 𝓡 wired)

pub full_copying_met : {M : Type 1} {𝓤 : Ura M} (𝓛 : Logic 𝓤) (𝓜 : Model 𝓤 𝓛.H) (𝓡 : Running 𝓤 𝓛.H 𝓜) → Wired 𝓡.env full-symbol.code
    → Meets 𝓛 full-call.signature (𝓡.run (𝓡.env full-symbol.name)) (λ κs a. record {
      ghost = Unit {0};
      requires = λ _. emp 𝓤;
      ensures = λ _ r. exits 𝓛 full-call.signature (full-call.ended).kept κs a (λ end. fact 𝓤 (FullCopying a.1.0 a.0.now a.1.1.0.now r end.1.1.0.now));
    })
full_copying_met {𝓤 = 𝓤} 𝓛 𝓜 𝓡 wired =
    bytes_known 𝓛 𝓜 𝓡 (𝓡.env full-symbol.name) 1 [] _ _ (full-call.ended).kept (full-call.clauses 𝓛 𝓜.mem 𝓡.returns) (λ κs a _ r end. fact 𝓤 (FullCopying a.1.0 a.0.now a.1.1.0.now r end.1.1.0.now))
    (λ κs a _ r end below. both 𝓤 _ _ _ (λ answers leaves. record { below = below; answers = answers; leaves = leaves }))
    (full-theorem.met 𝓤 𝓛 𝓜 𝓡 wired)

-- ## The bytes at the front
pub record WritesBy (copied : Reading → Bytes) (L : ResourceLimits) (chunk old written : Bytes) : Type 0 where
  pub len : ℕ
  pub new : Bytes
  pub call : CopyingBy copied L chunk old (Ok len) new
  pub bytes : take len new ≡ written

abbrev pub Writes : ResourceLimits → Bytes → Bytes → Bytes → Type 0
Writes = WritesBy copy

abbrev pub FullWrites : ResourceLimits → Bytes → Bytes → Bytes → Type 0
FullWrites = WritesBy full_copy

pub record ByReading (copied : Reading → Bytes) (L : ResourceLimits) (chunk written : Bytes) : Type 0 where
  pub reading : Reading
  pub is : read L chunk ≡ shown reading
  pub bytes : written ≡ copied reading

module _ {copied : Reading → Bytes} (L : ResourceLimits) (chunk old written : Bytes) (w : WritesBy copied L chunk old written) where
  pub by_reading : ByReading copied L chunk written
  by_reading = from (read L chunk) refl (sym w.call.answers) (ap (take w.len) (sym w.call.leaves) ∙ w.bytes)
    where
      room : (r : Reading) → read L chunk ≡ shown r → (t : Bool) → cond t (Ok (length (copied r))) (Err LentSpace) ≡ Ok w.len
          → take w.len (cond t (copied r ++ drop (length (copied r)) old) old) ≡ written → ByReading copied L chunk written
      room r is true a b =
          let size : length (copied r) ≡ w.len = cc in
          record { reading = r; is = is; bytes = sym b ∙ ap (λ n. take n (copied r ++ drop (length (copied r)) old)) (sym size) ∙ take-append_seam (copied r) (drop (length (copied r)) old) }
      room r is false a b = absurd (let z : ◌≡◌ {A = ℕ} 0 1 = cc in omega arith)

      from : (o : Outcome) → read L chunk ≡ o → shown_by copied (length old) o ≡ Ok w.len → take w.len (written_by copied old o) ≡ written → ByReading copied L chunk written
      from (shown r) is a b = room r is (leb (length (copied r)) (length old)) a b
      from (refusal q) is a b = absurd (let z : ◌≡◌ {A = ℕ} 0 1 = cc in omega arith)

  -- of the reading that it has
  pub written-is_by : (r : Reading) → read L chunk ≡ shown r → written ≡ copied r
  written-is_by r e =
      let same : by_reading.reading ≡ r = (let both = sym by_reading.is ∙ e in cc) in
      by_reading.bytes ∙ ap copied same

pub writes_by : (copied : Reading → Bytes) (L : ResourceLimits) (chunk old : Bytes) (r : Reading) → Below 256 chunk → read L chunk ≡ shown r → length (copied r) ≤ length old → WritesBy copied L chunk old (copied r)
writes_by copied L chunk old r below is room =
    let test = le-leb (length (copied r)) (length old) room in
    record {
      len = length (copied r);
      new = written_by copied old (read L chunk);
      call = record { below = below; answers = sym (ap (shown_by copied (length old)) is ∙ rw test); leaves = refl };
      bytes = ap (λ o. take (length (copied r)) (written_by copied old o)) is ∙ rw test (take-append_seam (copied r) (drop (length (copied r)) old));
    }

-- ## Of the archive copy
pub written-is-copy : (L : ResourceLimits) (chunk old written : Bytes) (r : Reading) → Writes L chunk old written → read L chunk ≡ shown r → written ≡ copy r
written-is-copy L chunk old written r w e = written-is_by L chunk old written w r e

pub writes : (L : ResourceLimits) (chunk old : Bytes) (r : Reading) → Below 256 chunk → read L chunk ≡ shown r → length (copy r) ≤ length old → Writes L chunk old (copy r)
writes = writes_by copy
