-- The numbers of a chunk's summary and of a function's fields.
use Rattle.std.specs.Prelude.{Option, Some, None}
use Rattle.format.specs.declared.header.Warning.{Warning}
use Rattle.std.specs.Prelude.{List, [], ◌∷◌, ℕ}
use Rattle.format.specs.declared.header.WarningCode.{WarningCode}
use Rattle.format.specs.declared.header.WarningCode.TheVariants.{L54Header003, L54Chunk001}
use Rattle.format.specs.Warnings.{warned}
use Rattle.show_chunk.specs.declared.summary.ChunkSummary.{ChunkSummary}
use Rattle.show_chunk.specs.declared.fields.FunctionFields.{FunctionFields}
use Rattle.c_entries.specs.EntryNumbers.{present_number, place_number, length_number}

-- 1: L54-HEADER-003, the format byte; 2: L54-CHUNK-001, trailing bytes
abbrev pub code_number : WarningCode → ℕ
code_number L54Header003 = 1
code_number L54Chunk001 = 2

-- of a warning as it is reported; where there is none, 0
abbrev pub warning_code : Option Warning → ℕ
warning_code None = 0
warning_code (Some w) = code_number (warned w).code

abbrev pub warning_place : Option Warning → ℕ
warning_place None = 0
warning_place (Some w) = (warned w).place

-- (`luac_int` is 22,136 in every chunk that is read)
abbrev pub summary_numbers : ChunkSummary → List ℕ
summary_numbers shown =
    let y = shown.summary in
    y.header.version
    ∷ y.header.format
    ∷ y.header.instruction_size
    ∷ y.header.lua_integer_size
    ∷ y.header.sizeof_sizet
    ∷ y.header.lua_number_size
    ∷ y.header.luac_num
    ∷ y.functions
    ∷ y.trailing_at
    ∷ y.trailing_len
    ∷ warning_code y.warnings.first
    ∷ warning_place y.warnings.first
    ∷ warning_code y.warnings.second
    ∷ warning_place y.warnings.second
    ∷ shown.padded_numbers
    ∷ []

abbrev pub fields_numbers : FunctionFields → List ℕ
fields_numbers y =
    y.depth
    ∷ y.parent
    ∷ present_number y.source_name
    ∷ place_number y.source_name
    ∷ length_number y.source_name
    ∷ y.line_defined
    ∷ y.last_line_defined
    ∷ y.numparams
    ∷ y.is_vararg
    ∷ y.maxstacksize
    ∷ y.counts.instructions
    ∷ y.counts.constants
    ∷ y.counts.upvalues
    ∷ y.counts.protos
    ∷ y.counts.line_info
    ∷ y.counts.abs_line_info
    ∷ y.counts.loc_vars
    ∷ y.counts.upvalue_names
    ∷ []
