-- The functions that crate `lua54` hands on, by themselves or as methods of its types, and that Demand2.antt does not
-- name; and the reader of a number, of which 02, item 1 speaks. Each with its whole contract, as there.
-- Assumes nothing.
use mathlib.Core.Path.{◌≡◌}
use mathlib.Core.List.{[], ◌∷◌}
use lib.ListN.{drop}
use Rattle.std.specs.Prelude.{ok_or}
use Rattle.format.specs.declared.refusal.Refusal.TheVariants.{NoOpcode}
use Rattle.format.specs.ReadFields.{number}
use Rattle.format_spelling.specs.ReadSpelling.{is_padded}
use Rattle.read_field.specs.Shown.{number_result}
use Rattle.validate_rules.specs.Rules.{severity}
use Rattle.word_opcodes.specs.Table.{opcode_at, number_of, mode_of}
use Rattle.word_fields.specs.Word.{encodedIABC, encodedIABx, encodedIAs_bx, encodedIAx, encoded_isJ}
use Rattle.read_field.specs.contracts.varint.read_varint_lua54 as varint-contract
use Rattle.read_field.proofs.varint.read_varint_lua54 as varint-call
use Rattle.validate_verdict.specs.contracts.tally.severity as severity-contract
use Rattle.validate_verdict.proofs.tally.severity as severity-call
use Rattle.word_opcodes.specs.contracts.opcode.Opcode54.from_u8 as from-u8-contract
use Rattle.word_opcodes.proofs.opcode.Opcode54.from_u8 as from-u8-call
use Rattle.word_opcodes.specs.contracts.opcode.Opcode54TryFromU8.try_from as try-from-contract
use Rattle.word_opcodes.proofs.opcode.Opcode54TryFromU8.try_from as try-from-call
use Rattle.word_opcodes.specs.contracts.opcode.Opcode54.number as number-contract
use Rattle.word_opcodes.proofs.opcode.Opcode54.number as number-call
use Rattle.word_opcodes.specs.contracts.opcode.Opcode54.mode as mode-contract
use Rattle.word_opcodes.proofs.opcode.Opcode54.mode as mode-call
use Rattle.word_fields.specs.contracts.instruction.RawInstruction54.encode_iabc as iabc-contract
use Rattle.word_fields.proofs.instruction.RawInstruction54.encode_iabc as iabc-call
use Rattle.word_fields.specs.contracts.instruction.RawInstruction54.encode_iabx as iabx-contract
use Rattle.word_fields.proofs.instruction.RawInstruction54.encode_iabx as iabx-call
use Rattle.word_fields.specs.contracts.instruction.RawInstruction54.encode_iasbx as iasbx-contract
use Rattle.word_fields.proofs.instruction.RawInstruction54.encode_iasbx as iasbx-call
use Rattle.word_fields.specs.contracts.instruction.RawInstruction54.encode_iax as iax-contract
use Rattle.word_fields.proofs.instruction.RawInstruction54.encode_iax as iax-call
use Rattle.word_fields.specs.contracts.instruction.RawInstruction54.encode_isj as isj-contract
use Rattle.word_fields.proofs.instruction.RawInstruction54.encode_isj as isj-call
use Rattle.demands.proofs.Promise.{Promise}

pub read_varint_lua54 : Promise varint-contract.ended varint-call.Symbol.code varint-call.Symbol.name (λ _ s cursor r. (r ≡ number_result (is_padded (drop cursor.at s.now)) (number cursor.at (drop cursor.at s.now))) ∷ [])
read_varint_lua54 _ = varint-call.Met.met

pub severity-of : Promise severity-contract.ended severity-call.Symbol.code severity-call.Symbol.name (λ _ rule r. (r ≡ severity rule) ∷ [])
severity-of _ = severity-call.Met.met

pub from_u8 : Promise from-u8-contract.ended from-u8-call.Symbol.code from-u8-call.Symbol.name (λ _ op r. (r ≡ opcode_at op) ∷ [])
from_u8 _ = from-u8-call.Met.met

pub try_from : Promise try-from-contract.ended try-from-call.Symbol.code try-from-call.Symbol.name
    (λ _ op r. (r ≡ ok_or (opcode_at op) NoOpcode) ∷ [])
try_from _ = try-from-call.Met.met

pub opcode_number : Promise number-contract.ended number-call.Symbol.code number-call.Symbol.name (λ _ o r. (r ≡ number_of o) ∷ [])
opcode_number _ = number-call.Met.met

pub opcode_mode : Promise mode-contract.ended mode-call.Symbol.code mode-call.Symbol.name (λ _ o r. (r ≡ mode_of o) ∷ [])
opcode_mode _ = mode-call.Met.met

pub encode_iabc : Promise iabc-contract.ended iabc-call.Symbol.code iabc-call.Symbol.name (λ _ o a b c k r. (r ≡ encodedIABC o a b c k) ∷ [])
encode_iabc _ = iabc-call.Met.met

pub encode_iabx : Promise iabx-contract.ended iabx-call.Symbol.code iabx-call.Symbol.name (λ _ o a bx r. (r ≡ encodedIABx o a bx) ∷ [])
encode_iabx _ = iabx-call.Met.met

pub encode_iasbx : Promise iasbx-contract.ended iasbx-call.Symbol.code iasbx-call.Symbol.name (λ _ o a sbx r. (r ≡ encodedIAs_bx o a sbx) ∷ [])
encode_iasbx _ = iasbx-call.Met.met

pub encode_iax : Promise iax-contract.ended iax-call.Symbol.code iax-call.Symbol.name (λ _ o ax r. (r ≡ encodedIAx o ax) ∷ [])
encode_iax _ = iax-call.Met.met

pub encode_isj : Promise isj-contract.ended isj-call.Symbol.code isj-call.Symbol.name (λ _ o sj r. (r ≡ encoded_isJ o sj) ∷ [])
encode_isj _ = isj-call.Met.met
