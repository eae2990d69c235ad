-- Lists that begin with another one.
use Rattle.std.proofs.Common.{◌≡◌, ◌∙◌, sym, ap, List, [], ◌++◌}
use Rattle.std.proofs.lemmas.List.{append_assoc, append-nil}

-- a list begins with another one
abbrev pub Begins : {X : Type 0} → List X → List X → Type 0
Begins {X} front xs = (more : List X) × (xs ≡ front ++ more)

pub whole : {X : Type 0} (xs : List X) → Begins xs xs
whole xs = ([], sym (append-nil xs))

pub further : {X : Type 0} (front xs ys : List X) → Begins front xs → Begins front (xs ++ ys)
further front xs ys h = (h.0 ++ ys, ap (λ zs. zs ++ ys) h.1 ∙ append_assoc front h.0 ys)
