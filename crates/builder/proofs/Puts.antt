-- Laws of `put`, a list written over another.
use Rattle.std.proofs.Common.{◌≡◌, ℕ, suc, ◌+◌, ◌<◌, ◌≤◌, List, [], ◌∷◌, ◌++◌, length, get_or, take, drop, set, sym, ap, ◌∙◌, append_assoc, add-zero, add-one, arith, length-append, length-drop, take-append-drop, length-take}
use Rattle.std.proofs.lemmas.List.{take_at, drop_at, drop-drop, set_split, set_at, length-take-le, get_or_at}
use Rattle.builder.specs.Filling.{put}

pub put_nil : {X : Type 0} (xs : List X) (n : ℕ) → put xs n [] ≡ xs
put_nil xs n = rw add-zero (take-append-drop n xs)

pub length-put : {X : Type 0} (xs : List X) (n : ℕ) (ys : List X) → n + length ys ≤ length xs → length (put xs n ys) ≡ length xs
length-put xs n ys h = simp (length-append, length-take, length-drop) (omega arith)

pub set-put : {X : Type 0} (xs : List X) (n : ℕ) (y : X) → n < length xs → set xs n y ≡ put xs n (y ∷ [])
set-put xs n y h = set_split xs n y h ∙ simp add-one

pub set_over : {X : Type 0} (xs : List X) (n : ℕ) (y z : X) (ys : List X) → n ≤ length xs → set (put xs n (y ∷ ys)) n z ≡ put xs n (z ∷ ys)
set_over xs n y z ys h = set_at (take n xs) y _ z n (length-take-le n xs h)

pub put-put : {X : Type 0} (xs : List X) (n : ℕ) (ys zs : List X) (m : ℕ) → m ≡ n + length ys → m ≤ length xs → put (put xs n ys) m zs ≡ put xs n (ys ++ zs)
put-put xs n ys zs m e h =
    let long : length (take n xs ++ ys) ≡ m = simp (length-append, length-take) (omega arith) in
    let whole : put xs n ys ≡ (take n xs ++ ys) ++ drop m xs = rw e (sym (append_assoc (take n xs) ys (drop (n + length ys) xs))) in
    let front : take m (put xs n ys) ≡ take n xs ++ ys = ap (take m) whole ∙ take_at _ _ m long in
    let back : drop m (put xs n ys) ≡ drop m xs = ap (drop m) whole ∙ drop_at _ _ m long in
    let rest : drop (m + length zs) (put xs n ys) ≡ drop (m + length zs) xs =
    sym (drop-drop (length zs) m _) ∙ ap (drop (length zs)) back ∙ drop-drop (length zs) m xs
    in
    let far : m + length zs ≡ n + length (ys ++ zs) = simp length-append (omega arith) in
    rw (front, rest, far) (simp append_assoc)

-- a row that is written, then what stands beneath it, then the row once more with its end
pub put_row : {X : Type 0} (xs : List X) (n : ℕ) (y z : X) (below after : List X) (m : ℕ) → n < length xs → m ≡ suc n + length below → m ≤ length xs → put (set (put (set xs n y) (suc n) below) n z) m after ≡ put xs n (z ∷ (below ++ after))
put_row xs n y z below after m h e k =
    let one : put (set xs n y) (suc n) below ≡ put xs n (y ∷ below) =
    rw (set-put xs n y h) (put-put xs n (y ∷ []) below (suc n) (omega arith) h)
    in
    let two : set (put (set xs n y) (suc n) below) n z ≡ put xs n (z ∷ below) =
    ap (λ (l : List _). set l n z) one ∙ set_over xs n y z below (omega arith)
    in
    rw two (put-put xs n (z ∷ below) after m (omega arith) k)

-- the row that was written first is still there
pub get_row : {X : Type 0} (xs : List X) (n : ℕ) (y d : X) (below : List X) → n < length xs → get_or (put (set xs n y) (suc n) below) n d ≡ y
get_row xs n y d below h =
    let one : put (set xs n y) (suc n) below ≡ put xs n (y ∷ below) =
    rw (set-put xs n y h) (put-put xs n (y ∷ []) below (suc n) (omega arith) h)
    in
    rw one (get_or_at (take n xs) y _ d n (length-take-le n xs (omega arith)))
