-- The byte behind the header of an archive copy: main's upvalue count modulo 256 (01 'chunk.rs').
--     byte_31          of every reading
--     byte_31_cases    main with 255, 256 and 300 upvalues, a function with others in it: 255, 0 and 44
--     byte_31_chunks   the same from the bytes of a chunk whose own byte 31 is 9
-- Told apart: the byte kept as it was, a count of 256 or more cut to 255, the upvalues of all functions counted.
-- Assumes nothing.
use mathlib.Core.Path.{◌≡◌, refl}
use mathlib.Core.List.{List, [], ◌∷◌, ◌++◌, map}
use mathlib.Core.Option.{none}
use Prim.Native.Nat.{ℕ, ◌%◌, ◌*◌}
use lib.ListN.{get_or, replicate}
use Rattle.format.specs.Form.{Bytes}
use Rattle.format.specs.GrammarHeader.{header_of}
use Rattle.format.specs.Limits.{ceilings}
use Rattle.format.specs.Reading.{Prototype, Reading}
use Rattle.format.specs.ReadChunk.{body, function, Outcome, shown, refusal, read}
use Rattle.format.specs.Copy.{header_bytes, upvalues_of_main, no_places, copy}

abbrev byte_of : Reading → ℕ
byte_of r = get_or (copy r) 31 0

pub byte_31 : (r : Reading) → byte_of r ≡ upvalues_of_main r.functions % 256
unfolding copy
byte_31 r = refl

-- ## Readings
-- a function with so many upvalues, and so many functions in it
abbrev function_with : ℕ → ℕ → Prototype
function_with upvalues protos = record {
  depth = 0;
  parent = 0;
  start = 0;
  end = 0;
  source_name = none;
  line_defined = 0;
  last_line_defined = 0;
  numparams = 0;
  is_vararg = 0;
  maxstacksize = 2;
  instructions = [];
  constants = [];
  upvalues = replicate upvalues (record { instack = 0; idx = 0; kind = 0 });
  protos = protos;
  line_info_lem = [];
  abs_line_info = [];
  loc_vars = [];
  upvalue_names_lem = [];
  places = no_places;
}

abbrev main_with : ℕ → Reading
main_with upvalues = record {
  header = header_of 0;
  warnings = [];
  functions = function_with upvalues 1 ∷ function_with 3 0 ∷ [];
  trailing_at = 0;
  trailing = [];
}

byte_31_cases : map (λ n. byte_of (main_with n)) (0 ∷ 255 ∷ 256 ∷ 300 ∷ []) ≡ 0 ∷ 255 ∷ 0 ∷ 44 ∷ []
unfolding copy
byte_31_cases = refl

-- ## Chunks
-- main with n upvalues, where `count` spells n
abbrev chunk_with : ℕ → Bytes → Bytes
chunk_with n count = header_bytes 0 ++ (9 ∷ 0x80 ∷ 0x80 ∷ 0x80 ∷ 0 ∷ 0 ∷ 2 ∷ 0x80 ∷ 0x80 ∷ count) ++ replicate (3 * n) 0 ++ replicate 5 0x80

abbrev copied : Outcome → ℕ
copied (shown r) = byte_of r
copied (refusal q) = 256

byte_31_chunks : map (λ (c : ℕ × Bytes). copied (read ceilings (chunk_with c.0 c.1))) ((255, 0x01 ∷ 0xff ∷ []) ∷ (256, 0x02 ∷ 0x80 ∷ []) ∷ (300, 0x02 ∷ 0xac ∷ []) ∷ []) ≡ 255 ∷ 0 ∷ 44 ∷ []
unfolding copy read body function
byte_31_chunks = refl
