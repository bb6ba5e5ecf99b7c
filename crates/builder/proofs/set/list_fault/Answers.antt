-- The error is listed behind the others, and its path keys stand behind the others.
use Rattle.std.proofs.Common.{◌≡◌, ℕ, ◌+◌, List, [], ◌∷◌, length, set, sym, refl, ap, ◌∙◌, arith, rules}
use Rattle.layout.specs.Forest.{none}
use Rattle.document.specs.Rows.{Selection, selection_of}
use Rattle.selection_rules.specs.Errors.{Path, Error, keys_of}
use Rattle.selection_rules.specs.Sets.{error_of}
use Rattle.building_rules.proofs.Fits.{fault_keys}
use Rattle.builder.specs.Filling.{put, path_of, cut_to, output, with_set}
use Rattle.builder.proofs.Paths.{as_deep, back}
use Rattle.builder.proofs.Outputs.{same_output, one_error}
use Rattle.builder.proofs.set.list_fault.Goals as goal

pub returns-clause-listed : goal.returns-clause-listed
returns-clause-listed c rows =
    let s : Selection = selection_of c.args.row.now in
    let p : Path = path_of c.enter.new.self in
    let e : Error = error_of c.args.fault p c.args.around s in
    let q = c.args.filled.path_keys in
    let o = output rows c.args.errors.now c.args.path_keys.now c.args.filled in
    let keys : keys_of e ≡ p.keys = fault_keys c.args.fault p c.args.around s in
    let written = c.write-at.ensures in
    let end : c.write-at.result.end_key ≡ q + length (keys_of e) =
    ap (λ x. x.end_key) written.path ∙ ap (λ (l : List ℕ). q + length l) (sym keys)
    in
    same_output refl
    (ap (set c.args.errors.now c.args.filled.errors) (c.selection_error.ensures q p written.path))
    (written.keys ∙ ap (put c.args.path_keys.now q) (sym keys)) refl refl end
    ∙ one_error o e c.requires.errors_fit
    ∙ ap (λ (x : Path). with_set o none (error_of c.args.fault x c.args.around s ∷ [])) c.enter.ensures.path

pub returns-clause-path : goal.returns-clause-path
returns-clause-path c =
    let whole : 32 ≡ length c.args.path.now.keys = search rules in
    c.leave.ensures.path
    ∙ ap (cut_to c.depth-depth.result) c.enter.ensures.path
    ∙ back (path_of c.args.path.now) (selection_of c.args.row.now) c.depth-depth.result (as_deep c.args.path.now (omega (arith, c.requires.shallow)) ∙ sym c.depth-depth.ensures)
