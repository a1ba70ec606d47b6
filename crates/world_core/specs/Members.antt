use Rattle.std.specs.Prelude.{◌≡◌, ◌⊎◌, List, [], ◌∷◌, ◌++◌}

-- x stands in the list
abbrev pub In : {X : Type 0} → X → List X → Type 0
In x [] = ⊥
In x (y ∷ ys) = (x ≡ y) ⊎ In x ys

-- one list is the other and what joined it behind
abbrev pub Begins : {X : Type 0} → List X → List X → Type 0
Begins {X = X} before now = (more : List X) × (now ≡ before ++ more)
