use Rattle.std.proofs.Common.{◌≡◌, rules}
use Rattle.dcel.specs.Layout.{real}
use Rattle.dcel.specs.EdgeSurgery.{split_inner_edge_change}
use Rattle.dcel.specs.Operations.{apply_with}
use Rattle.dcel.proofs.Laws.{split_inner_edge_grows}
use Rattle.dcel.proofs.splitting.split_inner_edge.Goals as goal

pub returns-clause-keeps : goal.returns-clause-keeps
returns-clause-keeps c =
    let written : c.triangle-4.new.memory ≡ apply_with real split_inner_edge_change _ _ _ _ _ = search rules in rw written (split_inner_edge_grows real _ _ _ _ _)
