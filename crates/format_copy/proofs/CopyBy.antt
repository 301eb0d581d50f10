-- A copy of a chunk that belongs to the grammar under some limits, by how its functions are written (enc) and what is kept of them (plainly): the archive copy and the full copy are such.
-- A chunk is bytes: numbers below 256.
--     Written          what is asked of a way to write functions: what it writes belongs under the same limits, if they allow a string of one byte, and keeps the same; and what is set aside does not show
--     by-..            the laws of copies, for each such way: CopyChunk.antt and FullChunk.antt name them
-- Assumes nothing.
use mathlib.Core.Path.{◌≡◌, refl, sym, subst, ◌∙◌, ap}
use mathlib.Core.List.{List, [], ◌++◌}
use Prim.Native.Nat.{ℕ, ◌≤◌}
use native.Mathlib.Omega.{arith}
use lib.ListN.{length}
use Rattle.format.specs.declared.limits.ResourceLimits.{ResourceLimits}
use Rattle.format.specs.Form.{Bytes, Below}
use Rattle.format.specs.GrammarFields.{little}
use Rattle.format.specs.GrammarHeader.{header_of}
use Rattle.format.specs.Reading.{Prototype, Reading}
use Rattle.format.specs.GrammarChunk.{Function, outermost, Loaded, Main, reading, Chunk}
use Rattle.format.specs.Copy.{field_bytes, upvalues_of_main, header_bytes}
use Rattle.format.specs.declared.spelling.Spelling.{Spelling}
use Rattle.format_spelling.specs.Spelling.{same, ◌⊕◌, spelling_of}
use Rattle.format_spelling.specs.Spelling as tally
use Rattle.format.proofs.Below.{below_split, below_join, parts}
use Rattle.format.proofs.Build.{put, last}
use Rattle.format.proofs.FieldBytes.{field_below, field-any}
use Rattle.format.proofs.WiderChunk.{AtMostEach, main_wider, above, above_left, above_right}
use Rattle.format.proofs.ReadChunkLaws.{chunk_unique}
use Rattle.format_spelling.proofs.Sums.{join_same, same_join}
use Rattle.format_spelling.proofs.SpellingLaws.{spelling_unique}
use Rattle.format_copy.proofs.BuiltSpelling.{carried}
use Rattle.format_copy.proofs.Copies.{Measure, Copies}
use Rattle.format_copy.proofs.CopyMain.{standard, header-spelt, header-below}

pub record Written (m : Measure) (enc : List Prototype → Bytes) (plainly : List Prototype → List Prototype) : Type 0 where
  pub whole : (L : ResourceLimits) → 1 ≤ L.max_string_bytes → (left : ℕ)
      → Copies m (Function L left outermost) (Function L left outermost) (tally.function L left outermost) (λ ps ps' b. (plainly ps' ≡ plainly ps) × (b ≡ enc ps))
  pub same : (ps qs : List Prototype) → plainly ps ≡ plainly qs → (enc ps ≡ enc qs) × (upvalues_of_main ps ≡ upvalues_of_main qs)

-- all but the trailing bytes
abbrev front_by : (List Prototype → Bytes) → List Prototype → Bytes
front_by enc ps = header_bytes 0 ++ (field_bytes 1 (upvalues_of_main ps) ++ enc ps)

abbrev pub copy_by : (List Prototype → Bytes) → Reading → Bytes
copy_by enc r = header_bytes 0 ++ (field_bytes 1 (upvalues_of_main r.functions) ++ (enc r.functions ++ r.trailing))

abbrev pub kept_by_lem : (List Prototype → List Prototype) → Reading → Reading
kept_by_lem plainly r = record { header = header_of 0; warnings = []; functions = plainly r.functions; trailing_at = 0; trailing = r.trailing }

-- what stands around a function adds nothing
alone : (m : Measure) (a : Spelling) → m.of a ≡ 0 → m.of (same ⊕ (same ⊕ (a ⊕ same))) ≡ 0
alone m a e = ap m.of (same_join (same ⊕ (a ⊕ same)) ∙ same_join (a ⊕ same) ∙ join_same a) ∙ e

record MainCopied (m : Measure) (enc : List Prototype → Bytes) (plainly : List Prototype → List Prototype) (L : ResourceLimits) (ps : List Prototype) : Type 0 where
  functions : List Prototype
  below : Below 256 (front_by enc ps)
  main : Main L 0 (front_by enc ps) (record { headed = standard; functions = functions })
  -- it is spelt as a copy is
  tidy : m.of ((tally.main L).of 0 (front_by enc ps) (record { headed = standard; functions = functions }) main) ≡ 0
  alike : plainly functions ≡ plainly ps

module _ {m : Measure} {enc : List Prototype → Bytes} {plainly : List Prototype → List Prototype} (way : Written m enc plainly) where
  -- ## The header, a byte and the functions
  main_copied : (L : ResourceLimits) → 1 ≤ L.max_string_bytes → (b : Bytes) (x : Loaded) → Below 256 b → Main L 0 b x → MainCopied m enc plainly L x.functions
  unfolding put last tally.main tally.both tally.none
  main_copied L l b x h d =
      let f = d.two.two in
      let z = (way.whole L l L.max_nesting_depth).again _ 32 f.front f.value (parts f (parts d.two (parts d h).1).1).0 f.one in
      let byte = field_bytes 1 (upvalues_of_main f.value) in
      let rest = enc f.value in
      let form : Bytes → Type 0 = λ b. Function L L.max_nesting_depth outermost 32 b z.value in
      let whole : form rest = subst form z.holds.1 z.spelt in
      let count : (b : Bytes) → form b → Spelling = λ b d. (tally.function L L.max_nesting_depth outermost).of 32 b z.value d in
      let none : m.of (count rest whole) ≡ 0 = rw (carried {P = form} count z.holds.1 z.spelt) z.tidy in
      rw (← f.two.1) (record {
        functions = z.value;
        below = below_join 256 (header_bytes 0) (byte ++ rest) header-below (below_join 256 byte rest (field_below 1 _) (rw z.holds.1 at z.below));
        main = put (header_bytes 0) (byte ++ rest) standard header-spelt (put byte rest (little byte) (field-any 1 _ 31) (last z.value whole (refl, refl)));
        tidy = alone m (count rest whole) none;
        alike = z.holds.0;
      })

  -- ## Under the same limits, if they allow a string of one byte: an absent local name is written as `?`
  -- only functions and trailing bytes are kept
  kept_by : (r q : Reading) → plainly r.functions ≡ plainly q.functions → r.trailing ≡ q.trailing → kept_by_lem plainly r ≡ kept_by_lem plainly q
  kept_by r q e f = rw (e, f)

  module _ (L : ResourceLimits) (l : 1 ≤ L.max_string_bytes) (s : Bytes) (r : Reading) (c : Chunk L s r) (h : Below 256 s) where
    copied : Below 256 (copy_by enc r) × ((q : Reading) × (d : Chunk L (copy_by enc r) q) × (kept_by_lem plainly q ≡ kept_by_lem plainly r) × (m.of (spelling_of d) ≡ 0))
    unfolding spelling_of
    copied =
        let k = below_split 256 c.front c.trailing (rw c.whole at h) in
        let z = main_copied L l c.front c.value k.0 c.main in
        let front = front_by enc c.value.functions in
        let x : Loaded = record { headed = standard; functions = z.functions } in
        let again = reading L x (length front) c.trailing in
        rw (← c.shows) (
          below_join 256 front c.trailing z.below k.1,
          (
            again,
            record { front = front; trailing = c.trailing; whole = refl; value = x; main = z.main; shows = refl },
            kept_by again (reading L c.value (length c.front) c.trailing) z.alike refl,
            z.tidy,
          ),
        )

  pub by_belongs : (L : ResourceLimits) (s : Bytes) (r : Reading) → Chunk L s r → Below 256 s → 1 ≤ L.max_string_bytes → (q : Reading) × Chunk L (copy_by enc r) q × (kept_by_lem plainly q ≡ kept_by_lem plainly r)
  by_belongs L s r c h l = let (q, d, e, _) = (copied L l s r c h).1 in (q, d, e)

  -- and it is spelt as a copy is, however it is read
  pub by_tidy : (L : ResourceLimits) (s : Bytes) (r : Reading) → Chunk L s r → Below 256 s → 1 ≤ L.max_string_bytes → (q : Reading) (d : Chunk L (copy_by enc r) q) → m.of (spelling_of d) ≡ 0
  by_tidy L s r c h l q d = let (_, e, _, none) = (copied L l s r c h).1 in ap m.of (spelling_unique d e) ∙ none

  -- ## Under any limits: what is read under some is read under larger ones, and in what is kept it is the same
  larger : (L N : ResourceLimits) → AtMostEach L N → (s : Bytes) (r : Reading) → Chunk L s r → (q : Reading) × Chunk N s q × (kept_by_lem plainly q ≡ kept_by_lem plainly r)
  larger L N le s r c =
      let q = reading N c.value (length c.front) c.trailing in
      let d : Chunk N s q = record { front = c.front; trailing = c.trailing; whole = c.whole; value = c.value; main = (main_wider le).widens c.main; shows = refl } in
      (q, d, kept_by q r (ap (λ x. plainly x.functions) c.shows) (ap (λ x. x.trailing) c.shows))

  -- what is set aside does not show in the copy
  pub by_kept : (r q : Reading) → kept_by_lem plainly r ≡ kept_by_lem plainly q → copy_by enc r ≡ copy_by enc q
  by_kept r q e =
      let functions = way.same r.functions q.functions (ap (λ x. x.functions) e) in
      let trailing : r.trailing ≡ q.trailing = ap (λ x. x.trailing) e in
      rw (functions.0, functions.1, trailing)

  pub by_keeps : (L M : ResourceLimits) (s : Bytes) (r q : Reading) → Chunk L s r → Below 256 s → Chunk M (copy_by enc r) q → kept_by_lem plainly q ≡ kept_by_lem plainly r
  by_keeps L M s r q c h d =
      let N = above L M in
      let (r₁, c₁, e) = larger L N (above_left L M) s r c in
      let (q₁, d₁, f) = larger M N (above_right L M) (copy_by enc r) q d in
      let (q₂, d₂, g) = by_belongs N s r₁ c₁ h (omega arith) in
      let one : q₁ ≡ q₂ = chunk_unique N (copy_by enc r) q₁ q₂ d₁ (rw (by_kept r₁ r e) at d₂) in
      sym f ∙ ap (kept_by_lem plainly) one ∙ g ∙ e

  pub by_same : (L M : ResourceLimits) (s : Bytes) (r q : Reading) → Chunk L s r → Below 256 s → Chunk M (copy_by enc r) q → copy_by enc q ≡ copy_by enc r
  by_same L M s r q c h d = by_kept q r (by_keeps L M s r q c h d)

  -- there are limits under which the copy is read, and it is bytes
  module _ (L : ResourceLimits) (s : Bytes) (r : Reading) (c : Chunk L s r) (h : Below 256 s) where
    somewhere : Below 256 (copy_by enc r) × ((q : Reading) × Chunk (above L L) (copy_by enc r) q)
    somewhere =
        let (r₁, c₁, e) = larger L (above L L) (above_left L L) s r c in
        let (b, k) = copied (above L L) (omega arith) s r₁ c₁ h in
        subst (λ x. Below 256 x × ((q : Reading) × Chunk (above L L) x q)) (by_kept r₁ r e) (b, (k.0, k.1))

  pub by_back : (L M : ResourceLimits) (s t : Bytes) (r q : Reading) → Chunk L s r → Chunk M t q → Below 256 s → Below 256 t → copy_by enc r ≡ copy_by enc q → kept_by_lem plainly r ≡ kept_by_lem plainly q
  by_back L M s t r q c d h k e =
      let (p, a) = (somewhere L s r c h).1 in
      sym (by_keeps L (above L L) s r p c h a) ∙ by_keeps M (above L L) t q p d k (rw e at a)

  pub by_below : (L : ResourceLimits) (s : Bytes) (r : Reading) → Chunk L s r → Below 256 s → Below 256 (copy_by enc r)
  by_below L s r c h = (somewhere L s r c h).0
