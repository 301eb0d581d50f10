-- `read_entry::constant::read_tagged` meets its contract: by the tag, and what was read behind it (`Constants.antt`). Assumes nothing.
use borrow.Author.Tests.{ne_eqb}
use lib.ListN.{drop}
use Rattle.format.specs.ReadFields.{field, string}
use Rattle.read_entry.proofs.Constants.{integer-shown, float-shown, short-shown, long-shown}
use Rattle.read_entry.proofs.constant.read_tagged.Goals as goal

pub returns-in-0 : goal.returns-in-0
returns-in-0 c = rw c.in-0.is

pub returns-in-1 : goal.returns-in-1
returns-in-1 c = rw c.in-1.is

pub returns-in-17 : goal.returns-in-17
returns-in-17 c = rw c.in-17.is

pub returns-in-3 : goal.returns-in-3
returns-in-3 c = let a = c.args in rw (c.integer.ensures, c.read_u64_le.ensures, c.in-3.is) (integer-shown (field 8 a.cursor.at (drop a.cursor.at a.s.now)))

pub returns-in-19 : goal.returns-in-19
returns-in-19 c = let a = c.args in rw (c.float.ensures, c.read_u64_le-in-19.ensures, c.in-19.is) (float-shown (field 8 a.cursor.at (drop a.cursor.at a.s.now)))

pub returns-in-4 : goal.returns-in-4
returns-in-4 c = let a = c.args in rw (c.short_string.ensures, c.read_string_lua54.ensures, c.in-4.is) (short-shown (string a.max_string_bytes a.cursor.at (drop a.cursor.at a.s.now)))

pub returns-in-20 : goal.returns-in-20
returns-in-20 c = let a = c.args in rw (c.long_string.ensures, c.read_string_lua54-in-20.ensures, c.in-20.is) (long-shown (string a.max_string_bytes a.cursor.at (drop a.cursor.at a.s.now)))

pub returns-in_default : goal.returns-in_default
returns-in_default c = let n = c.in_default.in_default-own.rest in
    rw (ne_eqb _ 0 n.0.0.0.0.0.0.1, ne_eqb _ 1 n.0.0.0.0.0.1, ne_eqb _ 17 n.0.0.0.0.1, ne_eqb _ 3 n.0.0.0.1, ne_eqb _ 19 n.0.0.1, ne_eqb _ 4 n.0.1, ne_eqb _ 20 n.1)
