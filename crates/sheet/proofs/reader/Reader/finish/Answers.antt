use Rattle.std.proofs.Common.{arith}
use Rattle.sheet.proofs.Misfits.{misfit_surplus}
use Rattle.sheet.proofs.reader.Reader.finish.Goals as goal

pub returns : goal.returns
returns c = misfit_surplus c.args.self.now.bytes.now c.args.self.now.at c.args.self.now.column (omega arith)
