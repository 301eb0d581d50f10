-- `read_field::string::read_content` meets its contract: at each return the tests say which case of the reader holds (`Strings.antt`). Assumes nothing.
use Rattle.read_field.proofs.Strings.{absent, too_long}
use Rattle.read_field.proofs.string.read_content.Goals as goal

pub returns-then-size-eq0 : goal.returns-then-size-eq0
returns-then-size-eq0 c =
    let a = c.args in
    absent a.s.now a.max_string_bytes a.first a.size a.cursor c.if-size-eq0.true

pub returns-then-max_string_bytes-len : goal.returns-then-max_string_bytes-len
returns-then-max_string_bytes-len c =
    let a = c.args in
    too_long a.s.now a.max_string_bytes a.first a.size a.cursor c.if-size-eq0.false c.if-max_string_bytes-len.true
