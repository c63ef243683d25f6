-- `lines::text::put_number` meets its contract: the digits that are put are those that are told.
-- Assumes nothing.
use borrow.Author.Rules.{rules}
use Rattle.lines.proofs.Decimals.{told}
use Rattle.lines.proofs.text.put_number.Goals as goal

pub returns-clause-text : goal.returns-clause-text
returns-clause-text c = told c.args.n (search rules) c.put_decimal.ensures
