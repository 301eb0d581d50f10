-- How what the readers of crates/format/specs/ReadChunk.antt pass over is spelt, from a place on: a count goes along with a reader, line by line; contracts cite it.
-- (It is the grammar's, `Spelling.antt`: `proofs/SpellingLaws.antt`.) A number is padded where its first byte is 0; what is counted before a refusal does not show.
use Rattle.std.specs.Prelude.{Bool, true, false, cond, List, [], ◌∷◌, ℕ, zero, suc, ◌+◌, eqb, length}
use Rattle.format.specs.declared.limits.ResourceLimits.{ResourceLimits}
use Rattle.format.specs.declared.refusal.Refusal.TheVariants.{Instructions, TotalInstructions, Constants, Upvalues, Prototypes, NestingDepth, TotalPrototypes}
use Rattle.format.specs.declared.refusal.Refusal.{Refusal}
use Rattle.format.specs.Form.{Bytes}
use Rattle.format.specs.Reading.{Prototype}
use Rattle.format.specs.GrammarChunk.{inherit, Where, after, within, outermost}
use Rattle.format.specs.declared.spelling.Spelling.{Spelling}
use Rattle.format_spelling.specs.Spelling.{same, ◌⊕◌, filling, dropping}
use Rattle.format.specs.Read.{Read, ok, refused, Reader, here, at_most, run}
use Rattle.format.specs.Read as plain
use Rattle.format.specs.ReadFields as field
use Rattle.format.specs.ReadHeader as head
use Rattle.format.specs.ReadChunk as reader

abbrev pub Count : Type 0
Count = ℕ → Bytes → Spelling

abbrev pub none : Count
none at s = same

-- behind what was read
abbrev pub behind : {A : Type 0} → Read A → (A → Count) → Spelling
behind (ok x to rest) f = f x to rest
behind (refused q) f = same

-- what r passes over, of which c is the count, and what comes behind it
abbrev pub plus : {A : Type 0} → Reader A → Count → (A → Count) → Count
plus r c f at s = c at s ⊕ behind (r at s) f

-- and what there is by the value
abbrev pub besides : {A : Type 0} → Reader A → Count → (A → Spelling) → Count
besides r c f = plus r c λ x at s. f x

-- a number that begins there is padded
abbrev pub is_padded : Bytes → Bool
is_padded [] = false
is_padded (x ∷ s) = eqb x 0

abbrev pub number : Count
number at s = record { padded = cond (is_padded s) 1 0; filled = 0; sources = 0; repeated = 0 }

-- a string's size
abbrev pub string : Count
string = number

abbrev pub many : {A : Type 0} → ℕ → Reader A → Count → Count
many zero r c = none
many (suc n) r c = plus r c λ x. many n r c

-- a list behind its count
abbrev pub counted : {A : Type 0} → Reader A → Count → Count
counted r c = plus field.number number λ n. many n r c

abbrev pub always : ℕ → Count
always limit = besides (field.string limit) string filling

abbrev pub tagged : ℕ → ℕ → Count
tagged limit tag =
    cond (eqb tag 0) none
    (cond (eqb tag 1) none
    (cond (eqb tag 17) none
    (cond (eqb tag 3) none
    (cond (eqb tag 19) none
    (cond (eqb tag 4) (always limit)
    (cond (eqb tag 20) (always limit)
    none))))))

abbrev pub constant : ℕ → Count
constant limit = plus field.byte none λ tag. tagged limit tag

abbrev pub anchor : Count
anchor = plus field.number number λ pc. number

abbrev pub local : ℕ → Count
local limit = plus (reader.always limit (63 ∷ [])) (always limit) λ name. plus field.number number λ startpc. number

abbrev pub source : ℕ → Where → Count
source limit w = besides (field.string limit) string (dropping w)

abbrev pub forest : ℕ → (Where → Reader (List Prototype)) → (Where → Count) → Where → Count
forest zero r c w = none
forest (suc n) r c w = plus (r w) (c w) λ ps. forest n r c (after ps w)

unfoldable pub body : (L : ResourceLimits) → (Where → Reader (List Prototype)) → (Where → Count) → Where → Count
body L r c w =
    plus (field.string L.max_string_bytes) (source L.max_string_bytes w) λ spelt.
    plus field.number number λ line_defined.
    plus field.number number λ last_line_defined.
    plus field.byte none λ numparams.
    plus field.byte none λ is_vararg.
    plus field.byte none λ maxstacksize.
    plus field.number number λ size.
    plus (plain.many size (field.field 4)) none λ instructions.
    plus (reader.counted_up_to L.max_constants_per_proto Constants (reader.constant L.max_string_bytes)) (counted (reader.constant L.max_string_bytes) (constant L.max_string_bytes)) λ constants.
    plus (reader.counted_up_to L.max_upvalues_per_proto Upvalues reader.upvalue) (counted reader.upvalue none) λ upvalues.
    plus field.number number λ protos.
    plus (reader.forest protos r (within w (inherit spelt w.source) (length instructions))) (forest protos r c (within w (inherit spelt w.source) (length instructions))) λ nested.
    plus field.number number λ line-info-size.
    plus (run line-info-size) none λ line_info_lem.
    plus (reader.counted reader.anchor) (counted reader.anchor anchor) λ abs_line_info.
    plus (reader.counted (reader.local L.max_string_bytes)) (counted (reader.local L.max_string_bytes) (local L.max_string_bytes)) λ loc_vars.
    counted (field.string L.max_string_bytes) string

-- a function that nests in another, below which functions nest at most `left` deep
abbrev pub entered : ResourceLimits → ℕ → Where → Reader (List Prototype)
entered L zero w at s = refused (NestingDepth at)
entered L (suc left) w at s = plain.next (at_most w.number L.max_total_prototypes (TotalPrototypes at) at s) (λ _. reader.function L left w)

unfoldable pub function : ResourceLimits → ℕ → Where → Count
function L zero = body L (entered L zero) (λ w. none)
function L (suc left) = body L (entered L (suc left)) (λ w. function L left w)

abbrev pub main : ResourceLimits → Count
main L = plus head.header none λ headed. plus field.byte none λ forgotten. function L L.max_nesting_depth outermost

-- HOW A CHUNK IS SPELT, as the readers pass over it
unfoldable pub spelling : ResourceLimits → Bytes → Spelling
spelling L chunk = main L 0 chunk
