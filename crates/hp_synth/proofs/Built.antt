-- From the diagrams of gates to what a round works on, and to the permitted choices.
use Rattle.std.proofs.Common.{◌≡◌, ℕ, ◌<◌, List, slice_index_or, Option, Some, None, sym, ap, ◌∙◌, arith}
use Rattle.std.specs.Option.{option_map_or}
use Rattle.hp_diagram.specs.declared.reference.Ref.{Ref}
use Rattle.hp_diagram.specs.Diagrams.{Diagrams, function, Means}
use Rattle.hp_quant.specs.Replacements.{replaced}
use Rattle.hp_boolx.specs.Search.{Bits}
use Rattle.hp_boolx.specs.Game.{Game, IsForm}
use Rattle.hp_boolx.specs.Machine.{bit}
use Rattle.hp_synth.specs.Valued.{Valued, read, all, through, over, states}
use Rattle.hp_synth.proofs.Ranges.{read-list}

-- replacements at the places of registers give the next state
pub next-replaced : (g : Game) → IsForm g → (place : ℕ → ℕ) (t : Diagrams) (by : List (Option Ref)) → ((k : ℕ) → k < g.registers → (r : Ref) × (slice_index_or by (place k) None ≡ Some r) × Means t (over place (λ v. bit (g.next (all g v)) k)) r) → (v : Valued) → states g (through place (replaced t by v)) ≡ g.next (all g (through place v))
next-replaced g form place t by each v =
    let w : Valued = through place (replaced t by v) in
    let next : Bits = g.next (all g (through place v)) in
    ap (λ n. read 0 n w) (sym (form.next (all g (through place v))))
    ∙ read-list 0 w next (λ k l.
    let e = each k (omega (arith, l, form.next (all g (through place v)))) in
    ap w (omega arith) ∙ ap (λ o. option_map_or (λ (r : Ref). function t r v) o (v (place k))) e.1 ∙ e.2.value v)
