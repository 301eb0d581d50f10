-- From the functions to the reading of a chunk, and to the answers of the exported calls: by what the copy of a reading is (by-..), and of the archive copy.
-- Assumes nothing.
use Rattle.std.specs.Prelude.{Result, Ok, Err}
use mathlib.Core.Path.{◌≡◌, refl, sym, subst, ◌∙◌, ap}
use mathlib.Core.List.{List, [], ◌∷◌}
use Prim.Native.Nat.{ℕ, suc, ◌+◌, ◌≤◌, ◌<◌}
use native.Mathlib.Nat.{zero-add}
use native.Mathlib.Omega.{arith}
use borrow.Author.Tests.{le-leb, lt-leb}
use lib.ListN.{length, get_or}
use Rattle.format.specs.declared.limits.ResourceLimits.{ResourceLimits}
use Rattle.format.specs.declared.refusal.Refusal.{Refusal}
use Rattle.format.specs.declared.refusal.Refusal.TheVariants.{LentSpace}
use Rattle.format.specs.Form.{Bytes, Below}
use Rattle.format.specs.Reading.{Prototype, Reading}
use Rattle.format.specs.GrammarChunk.{reading}
use Rattle.format.specs.Read.{Read, ok, refused}
use Rattle.format.specs.ReadChunk.{Outcome, shown, refusal, read}
use Rattle.format.specs.Copy.{functions_bytes, copy}
use Rattle.read_chunk.specs.declared.Opening.{Opening}
use Rattle.read_chunk.specs.Inner.Opening.{opened, opening_result}
use Rattle.read_chunk.proofs.BeforeMain.{known, functions, functions-refused, shows}
use Rattle.slice.specs.Inner.Splice.{splice}
use Rattle.slice.proofs.Splices.{splice_front}
use Rattle.copy_put.specs.Inner.Put.{Put}
use Rattle.copy_parts.proofs.PutParts.{put_as}
use Rattle.copy.specs.Copied.{length_by, shown_by, written_by, shown_length, shown_copy, copy_written}
use Rattle.copy.specs.Inner.Answers.{chunkBy, chunk_bytes, Answers, CopiesBy, Copies}

-- ## The reading
no_shown : {q : Refusal} {x : Reading} → refusal q ≡ shown x → ⊥
no_shown e = let z : ◌≡◌ {A = ℕ} 0 1 = cc in omega arith

-- by what the copy of a reading is, and what the bytes of its functions are
module _ (copied : Reading → Bytes) where
  pub by_stopped : (o : Outcome) (q : Refusal) (l : Bytes) (l' : Bytes) → o ≡ refusal q → CopiesBy copied o l (Err q) l'
  by_stopped o q l l' e = record { is = sym (ap (length_by copied) e); wrote = λ x f _. absurd (no_shown (sym e ∙ f)) }

  pub by_chunk_copied : (its : List Prototype → Bytes) → ((x : Reading) → chunkBy its x.functions x.trailing ≡ copied x)
      → (L : ResourceLimits) (s : Bytes) (f : Opening) (e : Ok f ≡ opening_result (opened L s)) (l l' : Bytes) (r : Result ℕ Refusal) → Answers (chunkBy its) (functions L s f e) l r l' → CopiesBy copied (read L s) l r l'
  by_chunk_copied its is L s f e l l' r a = from (functions L s f e) refl
    where
      from : (o : Read (List Prototype)) → functions L s f e ≡ o → CopiesBy copied (read L s) l r l'
      from (refused q) g = rw (a.stops q g) (by_stopped (read L s) q l l' (functions-refused L s f e q g))
      from (ok ps to rest) g =
          let p = a.puts ps to rest g in
          let r₁ : Reading = reading L (record { headed = (known L s f e).value; functions = ps }) to rest in
          let small : 0 + length (chunkBy its ps rest) ≤ 4294967296 = rw zero-add p.small in
          let put : Put (copied r₁) 0 l p.len l' = put_as (is r₁) p.put in
          let few : 0 + length (copied r₁) ≤ 4294967296 = subst (λ b. 0 + length b ≤ 4294967296) (is r₁) small in
          subst (λ o. CopiesBy copied o l r l') (sym (shows L s f e ps to rest g)) (record {
            is = p.is ∙ ap Ok (put.reach few ∙ zero-add (length (copied r₁)));
            wrote = λ x h fits. let same : r₁ ≡ x = cc in
                subst (λ x. length (copied x) ≤ length l → l' ≡ splice 0 (copied x) l) same (λ fits. put.wrote few (rw zero-add fits)) fits;
          })

  -- ## The exported calls
  module _ (old : Bytes) (o : Outcome) where
    pub by_short : (len : ℕ) → Ok len ≡ length_by copied o → length old < len → (Err LentSpace ≡ shown_by copied (length old) o) × (old ≡ written_by copied old o)
    by_short len e h = from o e
      where
        from : (o : Outcome) → Ok len ≡ length_by copied o → (Err LentSpace ≡ shown_by copied (length old) o) × (old ≡ written_by copied old o)
        from (shown r) e = let size : len ≡ length (copied r) = cc in let t = lt-leb (length (copied r)) (length old) (omega arith) in (rw t, rw t)
        from (refusal p) e = absurd (let z : ◌≡◌ {A = ℕ} 0 1 = cc in omega arith)

    pub by_whole : (len : ℕ) {r : Result ℕ Refusal} {new : Bytes} → Ok len ≡ length_by copied o → len ≤ length old → CopiesBy copied o old r new → (Ok len ≡ shown_by copied (length old) o) × (new ≡ written_by copied old o)
    by_whole len {r} {new} e h k = from o e k
      where
        from : (o : Outcome) → Ok len ≡ length_by copied o → CopiesBy copied o old r new → (Ok len ≡ shown_by copied (length old) o) × (new ≡ written_by copied old o)
        from (shown x) e k =
            let size : len ≡ length (copied x) = cc in
            let fits : length (copied x) ≤ length old = omega arith in
            let t = le-leb (length (copied x)) (length old) fits in
            (ap Ok size ∙ rw t, k.wrote x refl fits ∙ splice_front (copied x) old ∙ rw t)
        from (refusal p) e k = absurd (let z : ◌≡◌ {A = ℕ} 0 1 = cc in omega arith)

-- ## Of the archive copy
pub stopped : (o : Outcome) (q : Refusal) (l : Bytes) (l' : Bytes) → o ≡ refusal q → Copies o l (Err q) l'
stopped = by_stopped copy

pub chunk_copied : (L : ResourceLimits) (s : Bytes) (f : Opening) (e : Ok f ≡ opening_result (opened L s)) (l l' : Bytes) (r : Result ℕ Refusal) → Answers chunk_bytes (functions L s f e) l r l' → Copies (read L s) l r l'
unfolding copy
chunk_copied = by_chunk_copied copy functions_bytes (λ x. refl)

pub copy-short : (old : Bytes) (o : Outcome) (len : ℕ) → Ok len ≡ shown_length o → length old < len → (Err LentSpace ≡ shown_copy (length old) o) × (old ≡ copy_written old o)
copy-short = by_short copy

pub copy-whole : (old : Bytes) (o : Outcome) (len : ℕ) {r : Result ℕ Refusal} {new : Bytes} → Ok len ≡ shown_length o → len ≤ length old → Copies o old r new → (Ok len ≡ shown_copy (length old) o) × (new ≡ copy_written old o)
copy-whole old o len e h k = by_whole copy old o len e h k

-- the bytes of a slice
pub all-bytes : (s : Bytes) → ((i : ℕ) → i < length s → get_or s i 0 < 256) → Below 256 s
all-bytes [] h = tt
all-bytes (x ∷ s) h = (h 0 (omega arith), all-bytes s (λ i k. h (suc i) (omega arith)))
