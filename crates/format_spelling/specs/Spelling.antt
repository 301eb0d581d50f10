-- How a chunk is spelt (02, item 1): how many of its numbers are padded, and in how many other places its archive copy (crates/format/specs/Copy.antt) or its full copy (FullCopy.antt) spells the same reading otherwise.
-- Counted along the grammar (crates/format/specs/GrammarChunk.antt), with no reader: a tally of a form goes by how bytes are of the form, and has a line for each of its lines. `Spelling` is what the code carries.
-- Where they come from: lundump.c's `loadUnsigned` takes leading zero groups, and ldump.c's `dumpSize` writes none (padded); `loadStringN` takes size 0 where 01 shows a string (filled); `dumpFunction` writes the
-- source of a nested function as absent where it is its parent's (repeated), and 01's copy always (sources).
-- Not counted: header (the copy writes format 0) and byte 31, which have no number; an absent upvalue name, which the copy writes as absent; trailing bytes.
use Rattle.std.specs.Prelude.{Bool, true, false, cond, List, [], ◌∷◌, ℕ, zero, suc, ◌+◌, eqb, ltb, length}
use Rattle.std.proofs.Math.Option.{Option}
use Rattle.std.proofs.Math.Option as option
use Rattle.format.specs.declared.limits.ResourceLimits.{ResourceLimits}
use Rattle.format.specs.declared.spelling.Spelling.{Spelling}
use Rattle.format.specs.Form.{Bytes, Form, Then, When, Many, Nothing}
use Rattle.format.specs.GrammarFields.{LuaString, Number, String}
use Rattle.format.specs.Reading.{Prototype, Reading}
use Rattle.format.specs.GrammarChunk.{Counted, CountedUpTo, Always, Tagged, Constant, Anchor, Local, inherit, Where, after, within, outermost, Forest, Body, Function, Main, Chunk}
use Rattle.format.specs.Shortest.{shortest}
use Rattle.format.specs.FullCopy.{equal_sources}

infixl 6 ◌⊕◌
-- no place is otherwise
abbrev pub same : Spelling
same = record { padded = 0; filled = 0; sources = 0; repeated = 0 }

abbrev pub ◌⊕◌ : Spelling → Spelling → Spelling
◌⊕◌ a b = record { padded = a.padded + b.padded; filled = a.filled + b.filled; sources = a.sources + b.sources; repeated = a.repeated + b.repeated }

-- in how many places: in the archive copy, and in the full copy
abbrev pub respelt : Spelling → ℕ
respelt a = a.padded + a.filled + a.sources

abbrev pub respelt_full : Spelling → ℕ
respelt_full a = a.padded + a.filled + a.repeated

-- of bytes that are of the form F: how they are spelt
pub record Tally {A : Type 0} (F : Form A) : Type 0 where
  pub of : (at : ℕ) (bytes : Bytes) (x : A) → F at bytes x → Spelling

-- ## What a tally is made of
-- all of them are as the copy has them
unfoldable pub none : {A : Type 0} {F : Form A} → Tally F
none = record { of = λ at bytes x d. same }

-- those of the one part, and those of the other
unfoldable pub both : {A B : Type 0} {F : Form A} {G : A → Form B} → Tally F → ((x : A) → Tally (G x)) → Tally (Then F G)
both p q = record { of = λ at bytes y d. p.of at d.front d.value d.one ⊕ (q d.value).of (at + length d.front) d.back y d.two }

-- and what there is by the value
unfoldable pub besides : {A : Type 0} {F : Form A} → Tally F → (A → Spelling) → Tally F
besides p f = record { of = λ at bytes x d. p.of at bytes x d ⊕ f x }

unfoldable pub either : {A : Type 0} {F G : Form A} (b : Bool) → Tally F → Tally G → Tally (When b F G)
either true p q = p
either false p q = q

unfoldable pub each : {A : Type 0} {F : Form A} (n : ℕ) → Tally F → Tally (Many n F)
each zero p = none
each (suc n) p = both p λ x. both (each n p) λ xs. none

-- ## Numbers and strings
-- padded: spelt longer than the shortest spelling. (02: "whether it was in its shortest form")
unfoldable pub number : Tally Number
number = record { of = λ at bytes v d. record { padded = cond (ltb (length (shortest v)) (length bytes)) 1 0; filled = 0; sources = 0; repeated = 0 } }

-- a string's size is a number, absent or not. (02: "string sizes included")
unfoldable pub string : (limit : ℕ) → Tally (String limit)
string limit = both number λ size. none

-- ## Lists behind their counts, which are numbers
unfoldable pub counted : {A : Type 0} {F : Form A} → Tally F → Tally (Counted F)
counted p = both number λ n. both none λ place. both (each n p) λ items. none

unfoldable pub counted_up_to : {A : Type 0} {F : Form A} (limit : ℕ) → Tally F → Tally (CountedUpTo limit F)
counted_up_to limit p = both number λ n. both none λ _. both none λ place. both (each n p) λ items. none

-- ## Entries
-- a string constant or a local name of size 0: the copy writes what it reads as, empty or `?`
abbrev pub filling : Option LuaString → Spelling
filling option.none = record { padded = 0; filled = 1; sources = 0; repeated = 0 }
filling (option.some t) = same

unfoldable pub always : (limit : ℕ) (instead : Bytes) → Tally (Always limit instead)
always limit instead = both (besides (string limit) filling) λ t. none

unfoldable pub tagged : (limit tag : ℕ) → Tally (Tagged limit tag)
tagged limit tag =
    either (eqb tag 0) none
    (either (eqb tag 1) none
    (either (eqb tag 17) none
    (either (eqb tag 3) none
    (either (eqb tag 19) none
    (either (eqb tag 4) (both (always limit []) λ t. none)
    (either (eqb tag 20) (both (always limit []) λ t. none)
    none))))))

unfoldable pub constant : (limit : ℕ) → Tally (Constant limit)
constant limit = both none λ tag. tagged limit tag

unfoldable pub anchor : Tally Anchor
anchor = both number λ pc. both number λ line. none

unfoldable pub local : (limit : ℕ) → Tally (Local limit)
local limit = both (always limit (63 ∷ [])) λ name. both number λ startpc. both number λ endpc. none

-- ## Functions
-- the source of a function that stands at w, where it is spelt: the archive copy drops it but for main's, and main has the number 0; the full copy where it is the parent's as read (`w.source`; main has no parent)
abbrev pub dropping : Where → Option LuaString → Spelling
dropping w option.none = same
dropping w (option.some t) = record { padded = 0; filled = 0; sources = cond (eqb w.number 0) 0 1; repeated = cond (equal_sources (option.some t) w.source) 1 0 }

unfoldable pub source : (limit : ℕ) → Where → Tally (String limit)
source limit w = besides (string limit) (dropping w)

unfoldable pub forest : (n : ℕ) {F : Where → Form (List Prototype)} → ((w : Where) → Tally (F w)) → (w : Where) → Tally (Forest n F w)
forest zero p w = none
forest (suc n) p w = both (p w) λ ps. both (forest n p (after ps w)) λ more. none

unfoldable pub body : (L : ResourceLimits) {F : Where → Form (List Prototype)} → ((w : Where) → Tally (F w)) → (w : Where) → Tally (Body L F w)
unfolding Body
body L p w =
    both none λ start.
    both (source L.max_string_bytes w) λ spelt.
    both number λ line_defined.
    both number λ last_line_defined.
    both none λ numparams.
    both none λ is_vararg.
    both none λ maxstacksize.
    both number λ size.
    both none λ _.
    both none λ _.
    both none λ instructions_at.
    both none λ instructions.
    both (counted_up_to L.max_constants_per_proto (constant L.max_string_bytes)) λ constants.
    both (counted_up_to L.max_upvalues_per_proto none) λ upvalues.
    both number λ protos.
    both none λ _.
    both none λ protos-at.
    both (forest protos p (within w (inherit spelt w.source) (length instructions))) λ nested.
    both number λ line-info-size.
    both none λ line-info-at.
    both none λ line_info_lem.
    both (counted anchor) λ abs_line_info.
    both (counted (local L.max_string_bytes)) λ loc_vars.
    both (counted (string L.max_string_bytes)) λ upvalue_names_lem.
    none

unfoldable pub function : (L : ResourceLimits) (left : ℕ) (w : Where) → Tally (Function L left w)
unfolding Function
function L zero = body L (λ w. none)
function L (suc left) = body L (λ w. both none λ _. function L left w)

-- ## Chunks: the header has no number
unfoldable pub main : (L : ResourceLimits) → Tally (Main L)
main L = both none λ headed. both none λ forgotten. both (function L L.max_nesting_depth outermost) λ functions. none

-- HOW A CHUNK IS SPELT
unfoldable pub spelling_of : {L : ResourceLimits} {chunk : Bytes} {r : Reading} → Chunk L chunk r → Spelling
spelling_of {L} c = (main L).of 0 c.front c.value c.main

-- HOW MANY OF ITS NUMBERS ARE PADDED
abbrev pub padded_in : {L : ResourceLimits} {chunk : Bytes} {r : Reading} → Chunk L chunk r → ℕ
padded_in c = (spelling_of c).padded

-- IN HOW MANY PLACES ITS ARCHIVE COPY SPELLS OTHERWISE
abbrev pub respelt_in : {L : ResourceLimits} {chunk : Bytes} {r : Reading} → Chunk L chunk r → ℕ
respelt_in c = respelt (spelling_of c)

-- IN HOW MANY PLACES ITS FULL COPY SPELLS OTHERWISE
abbrev pub respelt_full_in : {L : ResourceLimits} {chunk : Bytes} {r : Reading} → Chunk L chunk r → ℕ
respelt_full_in c = respelt_full (spelling_of c)
