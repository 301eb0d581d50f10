-- The calls at a place (crates/c_parts/specs/PartNumbers.antt, crates/c_entries_at/specs/EntryNumbers.antt) show a chunk that is read. For function k of its reading, p:
--     head      at `start`, `head_at` shows p's source as it is spelt, its lines, its three bytes, and count and place of its words, constants, upvalues and nested functions
--     source    the source as it is spelt: absent where p's is that of its parent (main, which has none before it, has its own or none); one that is spelt stands in p, behind its start (`own`)
--     tail      behind the functions that nest in p (`last_end`: at the end of the last one; where there is none, where they would begin), `tail_at` shows count and place of its deltas, anchors, locals and names, and p's end
--     words ..  from a list's place on, each entry at the place that the call before gave as the one behind (`stepped`), the call shows entry i
-- `head_at` counts the instructions of this function alone, and holds them against the total: on a chunk that is read that test passes, as all before are counted in there.
-- Refused by these: a head that shows the source in force where none is spelt, or absent where one is spelt; a tail that is looked for behind the first nested function; entries at a fixed distance; a place behind that
-- is the entry's own; two numbers of an answer exchanged, also where definition and code agree on it; a call that refuses a part of a chunk that is read (21 and 22 included).
-- Assumes nothing.
use mathlib.Core.Path.{◌≡◌, refl, sym, ◌∙◌, ap, subst}
use mathlib.Core.Bool.{Bool, true, false, cond}
use mathlib.Core.List.{List, [], ◌∷◌, ◌++◌}
use mathlib.Core.Option.{Option, none, some, get_or}
use Prim.Native.Nat.{ℕ, zero, suc, ◌<◌, ◌^◌}
use native.Mathlib.Omega.{arith}
use lib.Dec.{leb}
use lib.ListN.{length, take, drop, get_elem?}
use mir.Syntax.{w8, w64}
use mir.Val.{to_z}
use mir.Facts.{of_z-to_z}
use Rattle.format.specs.declared.limits.ResourceLimits.{ResourceLimits}
use Rattle.format.specs.declared.refusal.Refusal.TheVariants.{LimitAboveCeiling, InputBytes}
use Rattle.format.specs.Form.{Bytes}
use Rattle.format.specs.Limits.{within_ceilings}
use Rattle.format.specs.GrammarFields.{LuaString}
use Rattle.format.specs.GrammarChunk.{inherit}
use Rattle.format.specs.Reading.{ConstantValue, nil, boolean, integer, float, short_string, long_string, Reading, Prototype, LocalVar}
use Rattle.format.specs.Read.{Read, ok, refused, next, give}
use Rattle.format.specs.ReadFields.{field, byte, string}
use Rattle.format.specs.ReadChunk.{constant, upvalue, anchor, local, main, outcome, shown, refusal, read}
use Rattle.format.proofs.Exact.{never}
use Rattle.format.proofs.ExactFields.{exact_field, exact_string}
use Rattle.format.proofs.ExactChunk.{exact_constant, exact_upvalue, exact_anchor, exact_local}
use Rattle.format.proofs.Located.{Located}
use Rattle.format_lua.proofs.LdumpWhole.{source_of}
use Rattle.read_field.specs.Shown.{option_string, shown as shown_read, string_result}
use Rattle.read_entry.specs.Readers.{RawLocal, raw_local}
use Rattle.read_entry.specs.Inner.Counts.{named}
use Rattle.read_entry.specs.Shown.{constant_value, constant_result, anchor_result, local_result}
use Rattle.read_entry.proofs.DebugInfo.{local-named}
use Rattle.read_nth.specs.Shown.{upvalue_result}
use Rattle.read_prototype.specs.Parts.{head, tail}
use Rattle.read_prototype.specs.PartsShown.{head_result, tail_result}
use Rattle.c_boundary.specs.Status.{limits_of, Answer, done, refuses, complement, admitted}
use Rattle.c_entries.specs.EntryNumbers.{present_number, place_number, length_number, string_numbers, constant_numbers}
use Rattle.c_parts.specs.PartNumbers.{of_head, of_tail, head_at, tail_at}
use Rattle.c_entries_at.specs.EntryNumbers.{up_to, local_numbers_at, of_word_at, of_constant_at, of_upvalue_at, of_delta_at, of_anchor_at, of_local_at, of_string_at, word_at, constant_at, upvalue_at, delta_at, anchor_at, local_at, string_at}
use Rattle.demands.proofs.Calls as calls
use Rattle.demands.proofs.SpeltHere.{Behind, head-behind}
use Rattle.demands.proofs.Nested.{last_end, Parted, all_parted}
use Rattle.demands.proofs.EntriesAt.{behind, last-of, stepped, entries_shown, run-bytes}

-- ## What is shown
-- of a string whether it is there, its place and its length
abbrev pub string_in_numbers : Option LuaString → List ℕ
string_in_numbers none = 0 ∷ 0 ∷ 0 ∷ []
string_in_numbers (some t) = 1 ∷ t.place ∷ length t.bytes ∷ []

-- of a constant its tag (lobject.h), its bits or a string's place, a string's length. (An integer's bits as a signed number and back: n itself, where n is below 2^64, `bits`)
abbrev pub constant_in_numbers : ConstantValue → List ℕ
constant_in_numbers nil = 0 ∷ 0 ∷ 0 ∷ []
constant_in_numbers (boolean b) = cond b 17 1 ∷ 0 ∷ 0 ∷ []
constant_in_numbers (integer n) = 3 ∷ complement (to_z w64 n) ∷ 0 ∷ []
constant_in_numbers (float n) = 19 ∷ n ∷ 0 ∷ []
constant_in_numbers (short_string t) = 4 ∷ t.place ∷ length t.bytes ∷ []
constant_in_numbers (long_string t) = 20 ∷ t.place ∷ length t.bytes ∷ []

pub bits : (n : ℕ) → n < 2 ^ 64 → complement (to_z w64 n) ≡ n
bits n h = of_z-to_z {w = w64} (record { fits = h })

-- of a function before those that nest in it, with its source as it is spelt
abbrev pub head_in_numbers : Option LuaString → Prototype → List ℕ
head_in_numbers spelt p =
    string_in_numbers spelt
    ++ p.line_defined
    ∷ p.last_line_defined
    ∷ p.numparams
    ∷ p.is_vararg
    ∷ p.maxstacksize
    ∷ length p.instructions
    ∷ p.places.instructions
    ∷ length p.constants
    ∷ p.places.constants
    ∷ length p.upvalues
    ∷ p.places.upvalues
    ∷ p.protos
    ∷ p.places.protos
    ∷ []

-- and behind them
abbrev pub tail_in_numbers : Prototype → List ℕ
tail_in_numbers p =
    length p.line_info_lem
    ∷ p.places.line_info_lem
    ∷ length p.abs_line_info
    ∷ p.places.abs_line_info
    ∷ length p.loc_vars
    ∷ p.places.loc_vars
    ∷ length p.upvalue_names_lem
    ∷ p.places.upvalue_names_lem
    ∷ p.end
    ∷ []

-- the numbers of an entry, and the place behind it
abbrev pub Numbered : {A : Type 0} → (A → List ℕ) → A → Answer → Type 0
Numbered numbers x a = a ≡ done (up_to (numbers x) (behind a))

-- a local variable, with its name as it is spelt: an absent one reads as `?`, at the place behind it. (Whether a `?` was spelt is not said here; crates/c_entries_at/proofs/Cases.antt has one of each)
pub record LocalNumbered (l : LocalVar) (a : Answer) : Type 0 where
  pub spelt : Option LuaString
  pub after_name : ℕ
  pub name : l.name ≡ get_or spelt (record { place = after_name; bytes = 63 ∷ [] })
  pub shows : a ≡ done (up_to (string_in_numbers spelt ++ (l.startpc ∷ l.endpc ∷ [])) (behind a))

-- the entries of a list that begins at a place
abbrev pub Entries : {A : Type 0} → (ℕ → Answer) → (A → Answer → Type 0) → ℕ → List A → Type 0
Entries {A} call Shown place xs = (i : ℕ) (x : A) → get_elem? xs i ≡ some x → Shown x (call (stepped call i place))

-- the function p, the one of number k of the functions fs
pub record ShownAt (l : List ℕ) (s : Bytes) (fs : List Prototype) (k : ℕ) (p : Prototype) : Type 0 where
  pub spelt : Option LuaString
  pub source : p.source_name ≡ inherit spelt (source_of (take k fs) p.parent)
  pub own : Behind p.start spelt
  pub head : head_at l p.start s ≡ done (head_in_numbers spelt p)
  pub tail : tail_at l (last_end k p.places.protos (drop (suc k) fs)) s ≡ done (tail_in_numbers p)
  pub words : Entries (λ at. word_at l at s) (Numbered (λ w. w ∷ [])) p.places.instructions p.instructions
  pub constants : Entries (λ at. constant_at l at s) (Numbered constant_in_numbers) p.places.constants p.constants
  pub upvalues : Entries (λ at. upvalue_at l at s) (Numbered (λ u. u.instack ∷ u.idx ∷ u.kind ∷ [])) p.places.upvalues p.upvalues
  pub deltas : Entries (λ at. delta_at l at s) (Numbered (λ d. complement (to_z w8 d) ∷ [])) p.places.line_info_lem p.line_info_lem
  pub anchors : Entries (λ at. anchor_at l at s) (Numbered (λ a. a.pc ∷ a.line ∷ [])) p.places.abs_line_info p.abs_line_info
  pub locals : Entries (λ at. local_at l at s) LocalNumbered p.places.loc_vars p.loc_vars
  pub names : Entries (λ at. string_at l at s) (Numbered string_in_numbers) p.places.upvalue_names_lem p.upvalue_names_lem

-- ## 21 and 22 pass
abbrev chosen : {A : Type 0} → Bool → Bool → A → A → A → A
chosen within short a longer above = cond within (cond short a longer) above

admits : (L : ResourceLimits) (s : Bytes) (r : Reading) → read L s ≡ shown r → (a : Answer) → admitted L s a ≡ a
unfolding read
admits L s r e a = go (within_ceilings L) (leb (length s) L.max_input_bytes) e
  where
    go : (b c : Bool) → chosen b c (outcome L (main L 0 s)) (refusal InputBytes) (refusal LimitAboveCeiling) ≡ shown r → chosen b c a (refuses InputBytes) (refuses LimitAboveCeiling) ≡ a
    go true true e = refl
    go true false e = absurd (let z : ◌≡◌ {A = ℕ} 0 1 = cc in omega arith)
    go false c e = absurd (let z : ◌≡◌ {A = ℕ} 0 1 = cc in omega arith)

-- ## The same numbers
string_numbers_lem : (o : Option LuaString) (more : List ℕ) → present_number (option_string o) ∷ place_number (option_string o) ∷ length_number (option_string o) ∷ more ≡ string_in_numbers o ++ more
string_numbers_lem none more = refl
string_numbers_lem (some t) more = refl

name_numbers : (o : Option LuaString) (to : ℕ) → up_to (string_numbers (option_string o)) to ≡ up_to (string_in_numbers o) to
name_numbers none to = refl
name_numbers (some t) to = refl

local_numbers_lem : (o : Option LuaString) (startpc endpc to : ℕ) → local_numbers_at (option_string o) startpc endpc to ≡ up_to (string_in_numbers o ++ (startpc ∷ endpc ∷ [])) to
local_numbers_lem none startpc endpc to = refl
local_numbers_lem (some t) startpc endpc to = refl

constant_numbers_lem : (c : ConstantValue) → constant_numbers (constant_value c) ≡ constant_in_numbers c
constant_numbers_lem nil = refl
constant_numbers_lem (boolean b) = refl
constant_numbers_lem (integer n) = refl
constant_numbers_lem (float n) = refl
constant_numbers_lem (short_string t) = refl
constant_numbers_lem (long_string t) = refl

-- ## The theorem
nth_before : {A : Type 0} (k : ℕ) (xs : List A) {x : A} → get_elem? xs k ≡ some x → length (take k xs) ≡ k
nth_before k [] e = absurd (let z : ◌≡◌ {A = ℕ} 0 1 = cc in omega arith)
nth_before zero (y ∷ xs) e = refl
nth_before (suc k) (y ∷ xs) e = ap suc (nth_before k xs e)

module _ (l : List ℕ) (s : Bytes) (r : Reading) (is : read (limits_of l) s ≡ shown r) where
  -- an answer behind the test
  numbered : (numbers : List ℕ) (to : ℕ) (a : Answer) → a ≡ done (up_to numbers to)
      → (admitted (limits_of l) s a ≡ done (up_to numbers (behind (admitted (limits_of l) s a)))) × (behind (admitted (limits_of l) s a) ≡ to)
  numbered numbers to a e =
      let all = admits (limits_of l) s r is a ∙ e in
      let place = ap behind all ∙ last-of numbers to in
      (all ∙ ap (λ k. done (up_to numbers k)) (sym place), place)

  raw_local_lem : (at : ℕ) (raw : RawLocal) (to : ℕ) (rest : Bytes) → raw_local (limits_of l).max_string_bytes at (drop at s) ≡ ok raw to rest → LocalNumbered (named raw) (local_at l at s) × (behind (local_at l at s) ≡ to)
  raw_local_lem at raw to rest e =
      let shows = numbered (string_in_numbers raw.name ++ (raw.startpc ∷ raw.endpc ∷ [])) to _ (ap (λ o. of_local_at (local_result o)) e ∙ ap done (local_numbers_lem raw.name raw.startpc raw.endpc to)) in
      (record { spelt = raw.name; after_name = raw.behind; name = refl; shows = shows.0 }, shows.1)

  a_local : (at : ℕ) (v : LocalVar) (to : ℕ) (rest : Bytes) → local (limits_of l).max_string_bytes at (drop at s) ≡ ok v to rest → LocalNumbered v (local_at l at s) × (behind (local_at l at s) ≡ to)
  a_local at v to rest e = go (raw_local (limits_of l).max_string_bytes at (drop at s)) refl (sym (local-named (limits_of l).max_string_bytes at (drop at s)) ∙ e)
    where
      go : (o : Read RawLocal) → raw_local (limits_of l).max_string_bytes at (drop at s) ≡ o → next o (λ l. give (named l)) ≡ ok v to rest → LocalNumbered v (local_at l at s) × (behind (local_at l at s) ≡ to)
      go (ok raw mid t) p q =
          let same : named raw ≡ v = cc in
          let place : mid ≡ to = cc in
          let shows = raw_local_lem at raw mid t p in
          (subst (λ v. LocalNumbered v (local_at l at s)) same shows.0, shows.1 ∙ place)
      go (refused z) p q = absurd (never q)

  module _ (k : ℕ) {p : Prototype} (there : get_elem? r.functions k ≡ some p) where
    located : Located (limits_of l) s p
    located = calls.located (limits_of l) s r is k p there

    parted : Parted (limits_of l) s (take k r.functions) p (drop (suc k) r.functions)
    parted = all_parted (limits_of l) s r is k there

    head-is : head_at l p.start s ≡ done (head_in_numbers parted.first.front.source p)
    head-is =
        admits (limits_of l) s r is (of_head (head_result (head (limits_of l) 0 p.start (drop p.start s))))
        ∙ ap (λ o. of_head (head_result o)) parted.at_start.is
        ∙ ap done (string_numbers_lem parted.first.front.source _)
        ∙ ap (λ q. done (head_in_numbers parted.first.front.source q)) (sym parted.is)

    tail-is : tail_at l (last_end k p.places.protos (drop (suc k) r.functions)) s ≡ done (tail_in_numbers p)
    tail-is =
        admits (limits_of l) s r is _
        ∙ ap (λ n. of_tail (tail_result (tail (limits_of l).max_string_bytes (last_end n p.places.protos (drop (suc k) r.functions)) (drop (last_end n p.places.protos (drop (suc k) r.functions)) s)))) (sym (nth_before k r.functions there))
        ∙ ap (λ o. of_tail (tail_result o)) parted.behind_nested
        ∙ ap (λ q. done (tail_in_numbers q)) (sym parted.is)

    pub shown-at : ShownAt l s r.functions k p
    shown-at = record {
      spelt = parted.first.front.source;
      source = ap (λ q. q.source_name) parted.is ∙ ap (inherit parted.first.front.source) parted.source;
      own = (head-behind (limits_of l) 0).holds parted.at_start.is;
      head = head-is;
      tail = tail-is;
      words = λ i x e. entries_shown s (field 4) (exact_field 4) (λ at. word_at l at s) (Numbered (λ w. w ∷ [])) (λ at x to rest e. numbered (x ∷ []) to _ (ap (λ o. of_word_at (shown_read o)) e)) (length p.instructions) located.instructions i e;
      constants = λ i x e. entries_shown s (constant (limits_of l).max_string_bytes) (exact_constant _) (λ at. constant_at l at s) (Numbered constant_in_numbers) (λ at x to rest e. numbered (constant_in_numbers x) to _ (ap (λ o. of_constant_at (constant_result o)) e ∙ ap (λ n. done (up_to n to)) (constant_numbers_lem x))) (length p.constants) located.constants i e;
      upvalues = λ i x e. entries_shown s upvalue exact_upvalue (λ at. upvalue_at l at s) (Numbered (λ u. u.instack ∷ u.idx ∷ u.kind ∷ [])) (λ at x to rest e. numbered (x.instack ∷ x.idx ∷ x.kind ∷ []) to _ (ap (λ o. of_upvalue_at (upvalue_result o)) e)) (length p.upvalues) located.upvalues i e;
      deltas = λ i x e. entries_shown s byte (exact_field 1) (λ at. delta_at l at s) (Numbered (λ d. complement (to_z w8 d) ∷ [])) (λ at x to rest e. numbered (complement (to_z w8 x) ∷ []) to _ (ap (λ o. of_delta_at (shown_read o)) e)) (length p.line_info_lem) (run-bytes (length p.line_info_lem) located.line_info_lem) i e;
      anchors = λ i x e. entries_shown s anchor exact_anchor (λ at. anchor_at l at s) (Numbered (λ a. a.pc ∷ a.line ∷ [])) (λ at x to rest e. numbered (x.pc ∷ x.line ∷ []) to _ (ap (λ o. of_anchor_at (anchor_result o)) e)) (length p.abs_line_info) located.abs_line_info i e;
      locals = λ i x e. entries_shown s (local (limits_of l).max_string_bytes) (exact_local _) (λ at. local_at l at s) LocalNumbered a_local (length p.loc_vars) located.loc_vars i e;
      names = λ i x e. entries_shown s (string (limits_of l).max_string_bytes) (exact_string _) (λ at. string_at l at s) (Numbered string_in_numbers) (λ at x to rest e. numbered (string_in_numbers x) to _ (ap (λ o. of_string_at (string_result o)) e ∙ ap done (name_numbers x to))) (length p.upvalue_names_lem) located.upvalue_names_lem i e;
    }
