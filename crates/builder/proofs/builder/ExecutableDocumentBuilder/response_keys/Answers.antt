-- The keys of an error's path stand where the path says.
use Rattle.std.proofs.Common.{ap, ◌∙◌}
use Rattle.selection_rules.specs.declared.error.SelectionPath.{SelectionPath}
use Rattle.builder.proofs.Readings.{reads}
use Rattle.builder.proofs.Cuts.{keys_of_path}
use Rattle.builder.proofs.builder.ExecutableDocumentBuilder.response_keys.Goals as goal

pub returns-clause-listed : goal.returns-clause-listed
returns-clause-listed g c m calls w before after e p there own path =
    let r = reads g.S.Schema.meaning m calls c.args.self.now c.args.tables.now w in
    c.keys_at.ensures
    ∙ keys_of_path _ _ before after e p.keys c.args.path.first_key c.args.path.end_key (c.in_use-keys.ensures ∙ r.path_keys) there own
    (ap (λ (x : SelectionPath). x.first_key) path) (ap (λ (x : SelectionPath). x.end_key) path)
