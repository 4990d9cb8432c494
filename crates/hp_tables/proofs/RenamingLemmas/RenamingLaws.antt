-- The lists of a part under other names are lists of such parts.
use Rattle.std.proofs.Common.{◌≡◌, refl, ℕ, List, [], ◌∷◌, map, ap}
use Rattle.hp_tree.specs.declared.decl.Cons.{Cons}
use Rattle.hp_tree.specs.Expressions.{Expr, more_exprs, more_parts, exprs_of, parts_of}
use Rattle.hp_tables.specs.Renaming.Renaming.{renamed, renamed_exprs, renamed_parts, renamed_part}

module _ (read declared : List ℕ → List ℕ) where
  pub exprs-mapped : (es : List Expr) → renamed_exprs read declared (exprs_of es) ≡ exprs_of (map (renamed read declared) es)
  exprs-mapped [] = refl
  exprs-mapped (e ∷ es) = ap (more_exprs (renamed read declared e)) (exprs-mapped es)

  pub parts-mapped : (ps : List (Cons × Expr)) → renamed_parts read declared (parts_of ps) ≡ parts_of (map (renamed_part read declared) ps)
  parts-mapped [] = refl
  parts-mapped (p ∷ ps) = ap (more_parts p.0 (renamed read declared p.1)) (parts-mapped ps)
