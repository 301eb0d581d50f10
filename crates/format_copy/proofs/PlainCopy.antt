-- A chunk of which no place is spelt otherwise is, behind its first 32 bytes, its own archive copy.
--     header-length    a header has 31 bytes
--     spelling-behind  a chunk is spelt as the function is that begins at its byte 32
--     plain_by         where main, with all that nest in it, is what a copy writes of it, that copy is the chunk behind its first 32 bytes
--     plain_copy       where no place is spelt otherwise, the copy is the chunk behind its first 32 bytes
--     plain_length     so it is as long
--     copy_plain       and only there, if the limits allow a string of one byte
-- Assumes nothing.
use mathlib.Core.Path.{◌≡◌, sym, ◌∙◌, ap, ap₂}
use mathlib.Core.Logic.{◌↔◌}
use mathlib.Core.List.{List, ◌++◌, append_assoc, append-nil}
use Prim.Native.Nat.{ℕ, ◌+◌, ◌≤◌}
use native.Mathlib.Omega.{arith}
use native.Mathlib.Nat.{zero-add}
use lib.ListN.{length, drop, length-append}
use lib.Seq.{drop_at}
use Rattle.format.specs.declared.limits.ResourceLimits.{ResourceLimits}
use Rattle.format.specs.Form.{Bytes, Below, Form, Then, Spelt}
use Rattle.format.specs.GrammarFields.{Byte}
use Rattle.format.specs.GrammarHeader.{Headed, BeforeFormat, BehindFormat, Header}
use Rattle.format.specs.Reading.{Prototype, Reading}
use Rattle.format.specs.GrammarChunk.{outermost, Function, Chunk}
use Rattle.format_spelling.specs.Spelling.{same, ◌⊕◌, respelt, spelling_of, respelt_in}
use Rattle.format_spelling.specs.Spelling as tally
use Rattle.format_spelling.specs.ReadSpelling as count
use Rattle.format.specs.Copy.{field_bytes, functions_bytes, upvalues_of_main, header_bytes, copy}
use Rattle.format.proofs.Below.{below_split, parts}
use Rattle.format_spelling.proofs.Sums.{join_same, same_join}
use Rattle.format_copy.proofs.CopyChunk.{copy_belongs, copy_tidy}
use Rattle.format_spelling.proofs.SpellingLaws.{tells_function}
use Rattle.format_copy.proofs.OwnChunk.{dropped, function-main}
use Rattle.format_copy.proofs.Own.{Sort, places, Own, weaken}

-- ## The header's length
joined : {A B : Type 0} {F : Form A} {G : A → Form B} {at : ℕ} {b : Bytes} {y : B} {n m : ℕ} (d : Then F G at b y) → length d.front ≡ n → length d.back ≡ m → length b ≡ n + m
joined d f g = ap length d.whole ∙ length-append d.front d.back ∙ ap₂ ◌+◌ f g

spelt-length : (c b : Bytes) (at : ℕ) (u : Unit {0}) → Spelt c at b u → length b ≡ length c
spelt-length c b at u d = joined d d.one.1 (ap length d.two.0) ∙ omega arith

byte-length : (b : Bytes) (at v : ℕ) → Byte at b v → length b ≡ 1
byte-length b at v d = joined d d.one.1 (ap length d.two.0)

before-length : (b : Bytes) (at : ℕ) (u : Unit {0}) → BeforeFormat at b u → length b ≡ 5
before-length b at u d = joined d (spelt-length _ _ _ _ d.one) (spelt-length _ _ _ _ d.two)

behind-length : (b : Bytes) (at : ℕ) (u : Unit {0}) → BehindFormat at b u → length b ≡ 25
behind-length b at u d =
    joined d (spelt-length _ _ _ _ d.one)
    (joined d.two (spelt-length _ _ _ _ d.two.one)
    (joined d.two.two (spelt-length _ _ _ _ d.two.two.one)
    (joined d.two.two.two (spelt-length _ _ _ _ d.two.two.two.one)
    (joined d.two.two.two.two (spelt-length _ _ _ _ d.two.two.two.two.one) (spelt-length _ _ _ _ d.two.two.two.two.two)))))

pub header-length : (b : Bytes) (at : ℕ) (h : Headed) → Header at b h → length b ≡ 31
header-length b at h d =
    let e = d.two in
    let f = e.two in
    let g = f.two in
    joined d (before-length _ _ _ d.one)
    (joined e (ap length e.one.0)
    (joined f (byte-length _ _ _ f.one)
    (joined g (behind-length _ _ _ g.one) (ap length g.two.0))))

-- ## Behind the first 32 bytes
module _ {L : ResourceLimits} {chunk : Bytes} {r : Reading} (c : Chunk L chunk r) where
  -- main and all that nest in it, and what follows them
  abbrev pub inside : Bytes
  inside = c.main.two.two.front

  where_it_is : length c.main.front + length c.main.two.front ≡ 32
  where_it_is = ap₂ ◌+◌ (header-length _ _ _ c.main.one) (byte-length _ _ _ c.main.two.one)

  abbrev pub first : Bytes
  first = c.main.front ++ c.main.two.front

  pub whole : chunk ≡ first ++ (inside ++ c.trailing)
  whole =
      let d = c.main in
      let e = d.two in
      let f = e.two in
      c.whole ∙ ap (λ b. b ++ c.trailing) (d.whole ∙ ap (λ b. d.front ++ b) (e.whole ∙ ap (λ b. e.front ++ b) (f.whole ∙ ap (λ b. f.front ++ b) f.two.0 ∙ append-nil f.front)))
      ∙ append_assoc d.front (e.front ++ f.front) c.trailing
      ∙ ap (λ b. d.front ++ b) (append_assoc e.front f.front c.trailing)
      ∙ sym (append_assoc d.front e.front (f.front ++ c.trailing))

  pub behind-is : drop 32 chunk ≡ inside ++ c.trailing
  behind-is = ap (drop 32) whole ∙ drop_at first (inside ++ c.trailing) 32 (length-append c.main.front c.main.two.front ∙ where_it_is)

  pub spelling-behind : spelling_of c ≡ count.function L L.max_nesting_depth outermost 32 (drop 32 chunk)
  unfolding spelling_of tally.main tally.both tally.none
  spelling-behind =
      let f = c.main.two.two in
      same_join _ ∙ same_join _ ∙ join_same _
      ∙ sym ((tells_function L L.max_nesting_depth outermost).same _ f.front f.value c.trailing f.one)
      ∙ ap₂ (count.function L L.max_nesting_depth outermost) (ap (λ n. n + length c.main.two.front) (zero-add (length c.main.front)) ∙ where_it_is) (sym behind-is)

  -- another front, of as many bytes
  pub front_length : (u : ℕ) → length (header_bytes 0 ++ (field_bytes 1 u ++ drop 32 chunk)) ≡ length chunk
  front_length u =
      let size : length chunk ≡ 32 + length (drop 32 chunk) = ap length whole ∙ length-append first (inside ++ c.trailing) ∙ ap₂ ◌+◌ (length-append c.main.front c.main.two.front ∙ where_it_is) (ap length (sym behind-is)) in
      length-append (header_bytes 0) (field_bytes 1 u ++ drop 32 chunk) ∙ ap (λ n. 31 + n) (length-append (field_bytes 1 u) (drop 32 chunk)) ∙ omega (arith, size)

module _ {L : ResourceLimits} {chunk : Bytes} {r : Reading} (c : Chunk L chunk r) (h : Below 256 chunk) where
  -- where main and all that nest in it are what a copy writes of them, the copy is the chunk
  pub plain_by : (m : Sort) (enc : List Prototype → Bytes) → Own m (Function L L.max_nesting_depth outermost) (tally.function L L.max_nesting_depth outermost) (λ ps b. b ≡ enc ps) → places m (spelling_of c) ≡ 0
      → header_bytes 0 ++ (field_bytes 1 (upvalues_of_main r.functions) ++ (enc r.functions ++ r.trailing)) ≡ header_bytes 0 ++ (field_bytes 1 (upvalues_of_main r.functions) ++ drop 32 chunk)
  unfolding spelling_of tally.main tally.both tally.none
  plain_by m enc one none =
      let d = c.main in
      let f = d.two.two in
      let k = below_split 256 c.front c.trailing (rw c.whole at h) in
      let below = (parts f (parts d.two (parts d k.0).1).1).0 in
      let spelt = (tally.function L L.max_nesting_depth outermost).of (0 + length d.front + length d.two.front) f.front f.value f.one in
      let alone : same ⊕ (same ⊕ (spelt ⊕ same)) ≡ spelt = same_join _ ∙ same_join _ ∙ join_same _ in
      let is : f.front ≡ enc f.value = one.own _ f.front f.value below f.one (ap (places m) (sym alone) ∙ none) in
      let ps : c.value.functions ≡ f.value = ap (λ m. m.functions) (sym f.two.1) in
      rw (← c.shows, ps, behind-is c, is)

  -- WHERE NO PLACE IS SPELT OTHERWISE, THE COPY IS THE CHUNK
  pub plain_copy : respelt_in c ≡ 0 → copy r ≡ header_bytes 0 ++ (field_bytes 1 (upvalues_of_main r.functions) ++ drop 32 chunk)
  unfolding copy
  plain_copy none = plain_by dropped functions_bytes (weaken (λ ps b w. w.joined) (function-main L L.max_nesting_depth)) none

  -- it is as long
  pub plain_length : respelt_in c ≡ 0 → length (copy r) ≡ length chunk
  plain_length none = ap length (plain_copy none) ∙ front_length c (upvalues_of_main r.functions)

  -- AND ONLY THERE, if the limits allow a string of one byte
  pub copy_plain : 1 ≤ L.max_string_bytes → copy r ≡ header_bytes 0 ++ (field_bytes 1 (upvalues_of_main r.functions) ++ drop 32 chunk) → respelt_in c ≡ 0
  copy_plain l e =
      let (q, d, _) = copy_belongs L chunk r c h l in
      ap respelt (spelling-behind c ∙ ap (count.function L L.max_nesting_depth outermost 32) (sym (ap (drop 32) e)) ∙ sym (spelling-behind d) ∙ copy_tidy L chunk r c h l q d)

  pub plain_exactly : 1 ≤ L.max_string_bytes → respelt_in c ≡ 0 ↔ copy r ≡ header_bytes 0 ++ (field_bytes 1 (upvalues_of_main r.functions) ++ drop 32 chunk)
  plain_exactly l = (plain_copy, copy_plain l)
