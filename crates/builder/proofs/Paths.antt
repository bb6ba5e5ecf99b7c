-- A path that goes on to a selection and back again is the same.
use Rattle.std.proofs.Common.{◌≡◌, ℕ, ◌≤◌, List, length, ap, ◌∙◌, arith}
use Rattle.std.proofs.lemmas.List.{take_at, take_all, length-take-le}
use Rattle.document.specs.Rows.{Selection}
use Rattle.selection_rules.specs.Errors.{Path}
use Rattle.selection_rules.specs.Stored.{Form, field, spread, inline, form_of}
use Rattle.selection_rules.specs.Sets.{path_in, path_to}
use Rattle.builder.specs.declared.path.OpenPath.{OpenPath}
use Rattle.builder.specs.Filling.{path_of, cut_to}

back_in : (f : Form) (p : Path) (s : Selection) (n : ℕ) → length p.keys ≡ n → cut_to n (path_in f p s) ≡ p
back_in field p s n long = ap (λ (ks : List ℕ). record { root = p.root; keys = ks }) (take_at p.keys _ n long)
back_in spread p s n long = ap (λ (ks : List ℕ). record { root = p.root; keys = ks }) (take_all n p.keys (omega (arith, long)))
back_in inline p s n long = ap (λ (ks : List ℕ). record { root = p.root; keys = ks }) (take_all n p.keys (omega (arith, long)))

pub as_deep : (p : OpenPath) → p.depth ≤ length p.keys → length (path_of p).keys ≡ p.depth
as_deep p low = length-take-le p.depth p.keys low

pub back : (p : Path) (s : Selection) (n : ℕ) → length p.keys ≡ n → cut_to n (path_to p s) ≡ p
back p s n long = back_in (form_of s) p s n long

pub returned : (p : Path) (s : Selection) (n : ℕ) → length p.keys ≡ n → (there left : Path) → there ≡ path_to p s → left ≡ cut_to n there → left ≡ p
returned p s n long there left is cut = cut ∙ ap (cut_to n) is ∙ back p s n long
