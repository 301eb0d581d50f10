-- A whole chunk copied, in the code's terms: by what the calls showed and put.
--     functions-put    main and the trailing bytes, by what the bytes of the functions are
--     main-put         of the archive copy
-- Assumes nothing.
use Rattle.std.specs.Prelude.{Result, Ok, Err}
use mathlib.Core.Path.{◌≡◌, refl, sym, ◌∙◌, ap}
use mathlib.Core.Bool.{true}
use mathlib.Core.List.{List, [], ◌∷◌, ◌++◌}
use Prim.Native.Nat.{ℕ, ◌+◌, ◌-◌, ◌≤◌}
use native.Mathlib.Omega.{arith}
use lib.ListN.{length, take, drop, length-append, length-drop}
use lib.Seq.{take_all}
use Rattle.format.specs.Limits.{MOST}
use Rattle.format.specs.declared.limits.ResourceLimits.{ResourceLimits}
use Rattle.format.specs.declared.refusal.Refusal.{Refusal}
use Rattle.format.specs.Form.{Bytes, Below}
use Rattle.format.specs.Reading.{Prototype}
use Rattle.format.specs.GrammarChunk.{outermost, instructions_of}
use Rattle.format.specs.Read.{Read, ok}
use Rattle.format.specs.ReadChunk.{function}
use Rattle.format.specs.Copy.{field_bytes, header_bytes, functions_bytes, upvalues_of_main}
use Rattle.format.proofs.ExactChunk.{exact_function}
use Rattle.format.proofs.Left.{left}
use Rattle.slice.specs.Shown.{cursor_at}
use Rattle.read_walk.specs.declared.walk.Skimmed.{Skimmed}
use Rattle.read_walk.specs.Inner.Skim.{skim_result}
use Rattle.slice.specs.Inner.Splice.{splice}
use Rattle.slice.proofs.Splices.{splice-before}
use Rattle.copy_put.specs.Inner.Put.{Put}
use Rattle.copy_put.proofs.Writes.{put_then}
use Rattle.copy_parts.specs.Inner.Parts.{function_bytes}
use Rattle.copy.specs.Inner.Answers.{chunkBy, chunk_bytes, Answers}
use Rattle.copy_parts.proofs.PutParts.{put_as}
use Rattle.copy_parts.proofs.Lengths.{Short}
use Rattle.copy_walk.proofs.Archive.{main-short}

-- ## Two pieces, where the first is put last
pub put-before : {a b : Bytes} {n after m : ℕ} {l l₁ l₂ : Bytes} → n ≡ length a → Put b n l after l₁ → Put a 0 l₁ m l₂ → Put (a ++ b) 0 l after l₂
put-before {a} {b} {n} {after} {m} {l} {l₁} {l₂} e p q = record {
  long = q.long ∙ p.long;
  reach = λ small. let k = size small in p.reach (omega arith) ∙ rw length-append (omega arith);
  wrote = λ small fits.
      let k = size small in
      let h = size fits in
      let long = p.long in
      let here : n ≡ 0 + length a = omega arith in
      q.wrote (omega arith) (omega arith) ∙ ap (splice 0 a) (p.wrote (omega arith) (omega arith) ∙ ap (λ k. splice k b l) here) ∙ splice-before 0 a b l (omega arith);
}
  where
    size : {n : ℕ} → 0 + length (a ++ b) ≤ n → length a + length b ≤ n
    size h = omega (arith, simp length-append at h)

-- ## Main and the trailing bytes
not-refused : {k : Skimmed} {q : Refusal} → ◌≡◌ {A = Result Skimmed Refusal} (Ok k) (Err q) → ⊥
not-refused e = let z : ◌≡◌ {A = ℕ} 0 1 = cc in omega arith

ends_there : (k : Skimmed) (ps : List Prototype) (to : ℕ) (rest : Bytes) → Ok k ≡ skim_result outermost (ok ps to rest) → k.next.at ≡ to
ends_there k ps to rest e = let all : k ≡ record { next = cursor_at to; number = 0 + length ps; instructions = 0 + instructions_of ps } = cc in ap (λ k. k.next.at) all

abbrev pub functions_at : ResourceLimits → Bytes → ℕ → Read (List Prototype)
functions_at L s at = function L L.max_nesting_depth outermost at (drop at s)

-- by what the bytes of the functions are, and that they are at most twice as many
module _ (its : List Prototype → Bytes) (s : Bytes) (short : length s ≤ MOST) (L : ResourceLimits) (at : ℕ) (few : (ps : List Prototype) (to : ℕ) (rest : Bytes) → functions_at L s at ≡ ok ps to rest → Short (its ps) at to) where
  small-copy : (ps : List Prototype) (to : ℕ) (rest : Bytes) → functions_at L s at ≡ ok ps to rest → length (chunkBy its ps rest) ≤ 4294967296
  small-copy ps to rest e =
      let z = (exact_function L L.max_nesting_depth outermost).sound {at = at} {s = drop at s} e in
      let place = z.place in
      let whole : length (drop at s) ≡ length z.bytes + length rest = ap length z.whole ∙ length-append z.bytes rest in
      let there = length-drop at s in
      let twice = (few ps to rest e).short in
      let size : length (chunkBy its ps rest) ≡ 32 + length (its ps ++ rest) = length-append (header_bytes 0 ++ field_bytes 1 (upvalues_of_main ps)) (its ps ++ rest) in
      let behind = length-append (its ps) rest in
      omega arith

  pub functions-put : (k : Skimmed) (upvalues n : ℕ) → Ok k ≡ skim_result outermost (functions_at L s at) → n ≡ length (drop k.next.at s)
      → {l l₁ l₂ l' : Bytes} {after m len : ℕ}
      → ((ps : List Prototype) (to : ℕ) (rest : Bytes) → functions_at L s at ≡ ok ps to rest → upvalues ≡ upvalues_of_main ps)
      → ((ps : List Prototype) (to : ℕ) (rest : Bytes) → functions_at L s at ≡ ok ps to rest → Put (its ps) 32 l after l₁)
      → Put (header_bytes 0 ++ field_bytes 1 upvalues) 0 l₁ m l₂
      → (n ≤ length s - k.next.at → Put (take n (drop k.next.at s)) after l₂ len l')
      → Answers (chunkBy its) (functions_at L s at) l (Ok len) l'
  functions-put k upvalues n e size {l} {l₁} {l₂} {l'} {after} {m} {len} u p q r = record {
    stops = λ x f. absurd (not-refused (e ∙ ap (skim_result outermost) f));
    puts = λ ps to rest f. record { len = len; is = refl; small = small-copy ps to rest f; put = all ps to rest f (ends_there k ps to rest (e ∙ ap (skim_result outermost) f)) };
  }
    where
      all : (ps : List Prototype) (to : ℕ) (rest : Bytes) → functions_at L s at ≡ ok ps to rest → k.next.at ≡ to → Put (chunkBy its ps rest) 0 l len l'
      all ps to rest f place =
          let count = u ps to rest f in
          let there : length (drop k.next.at s) ≡ length s - k.next.at = length-drop k.next.at s in
          let trailing : take n (drop k.next.at s) ≡ rest = take_all n (drop k.next.at s) (omega arith) ∙ ap (λ k. drop k s) place ∙ sym (left (exact_function L L.max_nesting_depth outermost) s at f) in
          let front : Put ((header_bytes 0 ++ field_bytes 1 upvalues) ++ its ps) 0 l after l₂ = put-before {a = header_bytes 0 ++ field_bytes 1 upvalues} refl (p ps to rest f) q in
          let main : Put ((header_bytes 0 ++ field_bytes 1 (upvalues_of_main ps)) ++ its ps) 0 l after l₂ = put_as (λ i. (header_bytes 0 ++ field_bytes 1 (count i)) ++ its ps) front in
          put_then main (put_as trailing (r (omega arith)))

-- ## Of the archive copy
functions_are : (ps : List Prototype) → function_bytes true ps ≡ functions_bytes ps
functions_are [] = refl
functions_are (p ∷ ps) = refl

module _ (s : Bytes) (bytes : Below 256 s) (short : length s ≤ MOST) (L : ResourceLimits) (at : ℕ) where
  pub main-put : (k : Skimmed) (upvalues n : ℕ) → Ok k ≡ skim_result outermost (functions_at L s at) → n ≡ length (drop k.next.at s)
      → {l l₁ l₂ l' : Bytes} {after m len : ℕ}
      → ((ps : List Prototype) (to : ℕ) (rest : Bytes) → functions_at L s at ≡ ok ps to rest → upvalues ≡ upvalues_of_main ps)
      → ((ps : List Prototype) (to : ℕ) (rest : Bytes) → functions_at L s at ≡ ok ps to rest → Put (function_bytes true ps) 32 l after l₁)
      → Put (header_bytes 0 ++ field_bytes 1 upvalues) 0 l₁ m l₂
      → (n ≤ length s - k.next.at → Put (take n (drop k.next.at s)) after l₂ len l')
      → Answers chunk_bytes (functions_at L s at) l (Ok len) l'
  main-put k upvalues n e size u p q r =
      functions-put functions_bytes s short L at (λ ps to rest f. rw (functions_are ps) at ((main-short s bytes L L.max_nesting_depth outermost at refl).holds f)) k upvalues n e size
      u (λ ps to rest f. put_as (functions_are ps) (p ps to rest f)) q r
