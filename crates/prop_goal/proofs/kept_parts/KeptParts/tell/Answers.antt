use Rattle.std.proofs.Common.{refl}
use Rattle.prop_goal.proofs.KeptParts.{parts_told}
use Rattle.prop_goal.proofs.kept_parts.KeptParts.tell.Goals as goal

pub returns-clause-keeps : goal.returns-clause-keeps
returns-clause-keeps c = λ program b d agree keeps. parts_told program b d c.args.cell c.args.self.now _ refl refl c.tell.ensures.told c.tell.ensures.listed agree keeps

pub returns-clause-alike : goal.returns-clause-alike
returns-clause-alike c = record { atoms = refl; ends = refl; waits = c.tell.ensures.count }
