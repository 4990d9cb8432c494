use Rattle.std.proofs.Common.{◌≡◌, ◌∙◌, ◌++◌, List, ap, codes, drop, length, min, sym, take, ℕ}
use Rattle.std.specs.Prelude.{◌-◌}
use Rattle.std.proofs.Math.Seq.{take-length}
use Rattle.std.proofs.lemmas.List.{drop_min, length-drop, take_min}
use Rattle.hp_driver.specs.Command.{counted_line}
use Rattle.hp_driver.proofs.sweep.text_of.Goals as goal

pub returns : goal.returns
returns c =
    let counts = c.args.counts.now in
    let n = c.min-first.result in
    let least : n ≡ min c.args.tasks (length counts) = c.min-first.ensures in
    let first : take n counts ≡ take c.args.tasks counts = ap (λ k. take k counts) least ∙ take_min c.args.tasks counts in
    let rest : take (length counts - n) (drop n counts) ≡ drop c.args.tasks counts =
    ap (λ k. take k (drop n counts)) (sym (length-drop n counts)) ∙ take-length (drop n counts) ∙ ap (λ k. drop k counts) least ∙ drop_min c.args.tasks counts in
    c.in_ok-add_line-2.ensures ∙ ap (λ (xs : List ℕ). xs ++ counted_line (codes "s") (take (length counts - n) (drop n counts))) (c.in_ok-add_line.ensures ∙ ap (λ (xs : List ℕ). xs ++ counted_line (codes "a") (take n counts)) c.new-text.ensures.items)
    ∙ (λ j. counted_line (codes "a") (first j) ++ counted_line (codes "s") (rest j))
