-- Definitions in two parts: the second goes on where the first left off.
use Rattle.std.proofs.Common.{List, [], ◌∷◌, ◌++◌, sym, refl, ap, ◌∙◌, append_assoc}
use Rattle.selection_rules.specs.Errors.{Error}
use Rattle.building_rules.specs.Definitions.{Kept, step}
use Rattle.building_rules.specs.Runs.{RunsGoOn}

pub runs_go_on : RunsGoOn
runs_go_on m s [] es = record { errors = refl; kept = refl; state = refl }
runs_go_on m s (d ∷ ds) es =
    let rest = runs_go_on m (step m s d).next ds es in
    record {
      errors = ap (λ (l : List Error). (step m s d).errors ++ l) rest.errors ∙ sym (append_assoc (step m s d).errors _ _);
      kept = ap (λ (l : List Kept). (step m s d).kept ++ l) rest.kept ∙ sym (append_assoc (step m s d).kept _ _);
      state = rest.state;
    }
