-- The ends of a text.
use Rattle.std.proofs.Common.{◌≡◌, ℕ, List, [], ◌++◌, take, drop, refl, sym, ap, ◌∙◌, append_assoc}
use Rattle.std.proofs.lemmas.List.{take-append-drop}
use Rattle.hp_obctext.specs.Places.{IsEndOf}

pub end_same : (text : List ℕ) → IsEndOf text text
end_same text = record { front = []; split = refl }

pub end_drop : (text rest : List ℕ) (n : ℕ) → rest ≡ drop n text → IsEndOf text rest
end_drop text rest n e = record { front = take n text; split = sym (take-append-drop n text) ∙ ap (λ r. take n text ++ r) (sym e) }

pub end_of_end : (text middle rest : List ℕ) → IsEndOf text middle → IsEndOf middle rest → IsEndOf text rest
end_of_end text middle rest e f = record { front = e.front ++ f.front; split = e.split ∙ ap (λ m. e.front ++ m) f.split ∙ sym (append_assoc e.front f.front rest) }

pub ruleset ends = (end_same, end_drop, end_of_end)

pub ruleset behinds = (end_same)
