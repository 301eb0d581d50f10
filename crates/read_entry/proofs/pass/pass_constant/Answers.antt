-- `read_entry::pass::pass_constant` meets its contract: a tag, and what follows by it (`Passes.antt`). Assumes nothing.
use Rattle.std.proofs.lemmas.Result.{err_from_is_err_and}
use mathlib.Core.Path.{sym, ◌∙◌}
use lib.ListN.{drop}
use Rattle.format.specs.ReadFields.{field}
use Rattle.format.specs.ReadChunk.{tagged}
use Rattle.format.proofs.ExactFields.{exact_field}
use Rattle.format_spelling.specs.ReadSpelling as count
use Rattle.format_spelling.proofs.Covers.{covers_none}
use Rattle.format_spelling.proofs.Tallies.{room-on, adds_none}
use Rattle.read_field.proofs.Shows.{shown_err, shown_ok}
use Rattle.read_entry.proofs.Passes.{passes_stop, passes_read}
use Rattle.read_entry.proofs.pass.pass_constant.Goals as goal

pub pass_tagged-requires : goal.pass_tagged-requires
pass_tagged-requires c = let a = c.args in
    room-on (covers_none (exact_field 1)) a.cursor.at (drop a.cursor.at a.s.now) c.requires (shown_ok (field 1 a.cursor.at (drop a.cursor.at a.s.now)) _ _ (sym c.in_ok-value.was ∙ c.read_u8.ensures)).is adds_none

pub returns-in_err-value : goal.returns-in_err-value
returns-in_err-value c =
    let p = err_from_is_err_and c.from_residual.result c.from_residual.ensures.1 in
    rw (p.1, p.2) (let a = c.args in let both = passes_stop (field 1) (tagged a.max_string_bytes a.cursor.at) a.cursor.at (drop a.cursor.at a.s.now) (shown_err (field 1 a.cursor.at (drop a.cursor.at a.s.now)) _ (sym c.in_err-value.was ∙ c.read_u8.ensures)) in record { value = both.0; adds = both.1 })

pub returns : goal.returns
returns c = let a = c.args in let both = passes_read (exact_field 1) count.none (tagged a.max_string_bytes a.cursor.at) (count.tagged a.max_string_bytes) a.s.now a.cursor.at (shown_ok (field 1 a.cursor.at (drop a.cursor.at a.s.now)) _ _ (sym c.in_ok-value.was ∙ c.read_u8.ensures)) adds_none (c.pass_tagged.ensures.value, c.pass_tagged.ensures.adds) in record { value = both.0; adds = both.1 }
