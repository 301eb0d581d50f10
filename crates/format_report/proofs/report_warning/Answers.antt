-- `format_report::report_warning` meets its contract: each arm is told which warning it has. Assumes nothing.
use mathlib.Core.Path.{ap, sym}
use borrow.Author.Rules.{rules}
use Rattle.format.specs.Warnings.{warned}
use Rattle.format_report.proofs.report_warning.Goals as goal

pub returns-in-NonStandardFormat : goal.returns-in-NonStandardFormat
returns-in-NonStandardFormat c = ap warned (sym c.in-NonStandardFormat.is)

pub returns-in-TrailingBytes : goal.returns-in-TrailingBytes
returns-in-TrailingBytes c = ap warned (sym c.in-TrailingBytes.is)
