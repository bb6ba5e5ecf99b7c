-- The first slots that are cut out of an index, and the keys of one path that are cut out of their table.
use Rattle.std.proofs.Common.{◌≡◌, ℕ, ◌+◌, ◌-◌, true, ◌&&◌, leb, List, ◌∷◌, ◌++◌, length, take, sym, refl, ap, ◌∙◌, subst, arith, length-append}
use Rattle.std.proofs.lemmas.Bool.{le-leb, and_from, cond-true}
use Rattle.std.proofs.lemmas.List.{take_at, drop_at}
use Rattle.selection_rules.specs.declared.stored.StoredRow.{StoredRow}
use Rattle.selection_rules.specs.declared.error.BuildError.{BuildError}
use Rattle.selection_rules.specs.Errors.{Error, keys_of, keys_in}
use Rattle.stored_tables.specs.declared.definition.StoredDefinition.{StoredDefinition}
use Rattle.building_rules.proofs.Fits.{keys_join}
use Rattle.builder.specs.declared.progress.Progress.{Progress}
use Rattle.builder.specs.Holding.{table, held}
use Rattle.builder.specs.Storing.{Indexed}
use Rattle.builder.specs.Reading.{keys_between}

-- the first 512 slots of an index are those that were cut out of it
pub first_slots : (p : Progress) (operations : List StoredDefinition) (s xs : List ℕ) (fragments : List StoredDefinition) (u ys : List ℕ) (rows : List StoredRow) (errors : List BuildError) (keys : List ℕ)
    → length s ≡ 512 → length u ≡ 512 → held p operations (take 512 (s ++ xs)) fragments (take 512 (u ++ ys)) rows errors keys ≡ held p operations s fragments u rows errors keys
first_slots p operations s xs fragments u ys rows errors keys a b =
    ap (λ (x : List ℕ). held p operations x fragments (take 512 (u ++ ys)) rows errors keys) (take_at s xs 512 a)
    ∙ ap (λ (x : List ℕ). held p operations s fragments x rows errors keys) (take_at u ys 512 b)

pub indexed_first : (entries : List StoredDefinition) (s xs : List ℕ) (count : ℕ) → Indexed (table entries s count) → Indexed (table entries (take 512 (s ++ xs)) count)
indexed_first entries s xs count w = subst (λ (l : List ℕ). Indexed (table entries l count)) (sym (take_at s xs 512 w.slots)) w

between : (a k r : List ℕ) → keys_between (a ++ (k ++ r)) (length a) (length a + length k) ≡ k
between a k r =
    let long = length-append a (k ++ r) in
    let more = length-append k r in
    let inside : leb (length a) (length a + length k) && leb (length a + length k) (length (a ++ (k ++ r))) ≡ true =
    and_from _ _ (le-leb (length a) (length a + length k) (omega arith)) (le-leb (length a + length k) (length (a ++ (k ++ r))) (omega arith))
    in
    cond-true _ _ _ inside
    ∙ ap (λ (l : List ℕ). take ((length a + length k) - length a) l) (drop_at a (k ++ r) (length a) refl)
    ∙ take_at k r ((length a + length k) - length a) (omega arith)

-- the keys of an error's path stand behind those of the errors before it
pub keys_of_path : (keys : List ℕ) (es before after : List Error) (e : Error) (path : List ℕ) (first end : ℕ) → keys ≡ keys_in es → es ≡ before ++ e ∷ after → keys_of e ≡ path
    → first ≡ length (keys_in before) → end ≡ length (keys_in before) + length path → keys_between keys first end ≡ path
keys_of_path keys es before after e path first end is there own starts ends =
    let a = keys_in before in
    let all : keys ≡ a ++ (path ++ keys_in after) = is ∙ ap keys_in there ∙ keys_join before (e ∷ after) ∙ ap (λ (l : List ℕ). a ++ (l ++ keys_in after)) own in
    ap (λ (l : List ℕ). keys_between l first end) all
    ∙ ap (λ (n : ℕ). keys_between (a ++ (path ++ keys_in after)) n end) starts
    ∙ ap (keys_between (a ++ (path ++ keys_in after)) (length a)) ends
    ∙ between a path (keys_in after)
