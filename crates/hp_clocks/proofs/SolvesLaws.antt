-- What is told of units, one after another.
use Rattle.std.proofs.Common.{◌≡◌, ℕ, ◌≤◌, List, [], ◌∷◌, ◌++◌, length, refl, sym, ap, ◌∙◌, subst, arith, append_assoc}
use Rattle.std.specs.Prelude.{⊤, Result, Ok, Err, OnOk}
use Rattle.std.specs.Result.{IsErrAnd}
use Rattle.hp_base.specs.declared.span.Span.{Span}
use Rattle.hp_clocks.specs.declared.cell.Cell.{Cell}
use Rattle.hp_clocks.specs.declared.cell.Failure.{Failure}
use Rattle.hp_clocks.specs.declared.cell.Failure.TheVariants as failure
use Rattle.hp_clocks.specs.declared.solve.Unsolved.{Unsolved}
use Rattle.hp_clocks.specs.declared.solve.Unsolved.TheVariants as unsolved
use Rattle.hp_clocks.specs.Cells.{Clocks, AreCells, Never}
use Rattle.hp_clocks.specs.Scopes.{Grows}
use Rattle.hp_clocks.specs.Units.{CellUnit, Allows, AllAllow, place_of}
use Rattle.hp_clocks.specs.Putting.{Settles, Puts, Fails, Solves, out_of_unit}
use Rattle.hp_clocks.proofs.Growing.{grows_then}
use Rattle.hp_clocks.proofs.Sampling.{grows_like}
use Rattle.hp_clocks.proofs.Leading.{grows_none}

pub both_allow : (at : Clocks) (us vs : List CellUnit) → AllAllow at (us ++ vs) → AllAllow at us × AllAllow at vs
both_allow at [] vs h = (tt, h)
both_allow at (u ∷ us) vs h = let r = both_allow at us vs h.1 in ((h.0, r.0), r.1)

pub join_allow : (at : Clocks) (us vs : List CellUnit) → AllAllow at us → AllAllow at vs → AllAllow at (us ++ vs)
join_allow at [] vs h k = k
join_allow at (u ∷ us) vs h k = (h.0, join_allow at us vs h.1 k)

module _ (n : ℕ) where
  pub puts_none : (cs : List Cell) → AreCells cs → n ≤ length cs → Puts n cs cs []
  puts_none cs a h = record { floor = h; grows = grows_none cs (λ at. ⊤) a (λ at. tt); settles = λ at more g p. tt }

  pub puts_then : (cs ds es : List Cell) (us vs : List CellUnit) → Puts n cs ds us → Puts n ds es vs → Puts n cs es (us ++ vs)
  puts_then cs ds es us vs p q =
      let h : n ≤ length cs = p.floor in
      record {
        floor = p.floor;
        grows = grows_like cs es (λ at. AllAllow at us × AllAllow at vs) (λ at. AllAllow at (us ++ vs))
            (grows_then cs ds es (λ at. AllAllow at us) (λ at. AllAllow at vs)
            (λ at more g k. q.settles at more (λ i l. g i (omega (arith, l, h))) k) p.grows q.grows)
            (λ at f k. join_allow at us vs k.0 k.1)
            (λ at f k. both_allow at us vs k);
        settles = λ at more g k.
            let r = both_allow at us vs k in
            join_allow more us vs (p.settles at more g r.0) (q.settles at more g r.1);
      }

  pub fails_then : (cs ds : List Cell) (us vs : List CellUnit) (at : Span) → Puts n cs ds us → Fails n ds vs at → Fails n cs (us ++ vs) at
  fails_then cs ds us vs at p f =
      record {
        earlier = us ++ f.earlier;
        one = f.one;
        later = f.later;
        split = ap (λ z. us ++ z) f.split ∙ sym (append_assoc us f.earlier (f.one ∷ f.later));
        placed = f.placed;
        cells = f.cells;
        puts = puts_then cs ds f.cells us f.earlier p f.puts;
        never = f.never;
      }

  pub fails_more : (cs : List Cell) (us vs : List CellUnit) (at : Span) → Fails n cs us at → Fails n cs (us ++ vs) at
  fails_more cs us vs at f =
      record {
        earlier = f.earlier;
        one = f.one;
        later = f.later ++ vs;
        split = ap (λ z. z ++ vs) f.split ∙ append_assoc f.earlier (f.one ∷ f.later) vs;
        placed = f.placed;
        cells = f.cells;
        puts = f.puts;
        never = f.never;
      }

  pub solves_then : (cs ds es : List Cell) (us vs : List CellUnit) (r : Result ⊤ Unsolved) → Puts n cs ds us → Solves n ds es vs r → Solves n cs es (us ++ vs) r
  solves_then cs ds es us vs (Ok x) p s = puts_then cs ds es us vs p s
  solves_then cs ds es us vs (Err (unsolved.Clash at)) p s = fails_then cs ds us vs at p s
  solves_then cs ds es us vs (Err unsolved.OutOfMemory) p s = tt

  -- Where it ends with an error, what would come behind does not matter.
  pub stops : (cs ds es : List Cell) (us vs : List CellUnit) (e : Unsolved) → Solves n cs ds us (Err e) → Solves n cs es (us ++ vs) (Err e)
  stops cs ds es us vs (unsolved.Clash at) s = fails_more cs us vs at s
  stops cs ds es us vs unsolved.OutOfMemory s = tt

  pub solves_like : (cs ds : List Cell) (us vs : List CellUnit) (r : Result ⊤ Unsolved) → us ≡ vs → Solves n cs ds us r → Solves n cs ds vs r
  solves_like cs ds us vs r e s = subst (λ z. Solves n cs ds z r) e s

  -- an error that is handed on
  pub solves_handed : (cs ds : List Cell) (us : List CellUnit) (r : Result ⊤ Unsolved) (e : Unsolved) → IsErrAnd r (λ x. x ≡ e) → Solves n cs ds us (Err e) → Solves n cs ds us r
  solves_handed cs ds us (Ok x) e h s = absurd h
  solves_handed cs ds us (Err x) e h s = subst (λ z. Solves n cs ds us (Err z)) (sym h) s

  -- ---- one unit

  pub one_puts : (cs ds : List Cell) (u : CellUnit) → n ≤ length cs → Settles n (λ at. Allows at u) → Grows cs ds (λ at. Allows at u) → Puts n cs ds (u ∷ [])
  one_puts cs ds u h k g =
      record {
        floor = h;
        grows = grows_like cs ds (λ at. Allows at u) (λ at. AllAllow at (u ∷ [])) g (λ at f p. (p, tt)) (λ at f p. p.0);
        settles = λ at more same p. (k at more same p.0, tt);
      }

  pub one_fails : (cs : List Cell) (u : CellUnit) (at : Span) → AreCells cs → n ≤ length cs → place_of u ≡ at → Never cs (λ clocks. Allows clocks u) → Fails n cs (u ∷ []) at
  one_fails cs u at a h e k =
      record { earlier = []; one = u; later = []; split = refl; placed = e; cells = cs; puts = puts_none cs a h; never = k }

  pub unit_solves : (cs ds : List Cell) (u : CellUnit) (at : Span) (made : Result ⊤ Failure) → AreCells cs → n ≤ length cs → place_of u ≡ at → Settles n (λ clocks. Allows clocks u) → OnOk made (Grows cs ds (λ clocks. Allows clocks u)) → (made ≡ Err failure.Clash → Never cs (λ clocks. Allows clocks u)) → Solves n cs ds (u ∷ []) (out_of_unit at made)
  unit_solves cs ds u at (Ok x) a h e k g c = one_puts cs ds u h k g
  unit_solves cs ds u at (Err failure.Clash) a h e k g c = one_fails cs u at a h e (c refl)
  unit_solves cs ds u at (Err failure.OutOfMemory) a h e k g c = tt

  -- ---- units of which more are to come

  pub record LeadsTo (before now : List Cell) (rest all : List CellUnit) : Type 0 where
    pub cells : AreCells now
    pub longer : length before ≤ length now
    pub onward : (after : List Cell) (r : Result ⊤ Unsolved) → Solves n now after rest r → Solves n before after all r

  pub leads_to_next : (cs ds es : List Cell) (us vs rest all : List CellUnit) → rest ≡ us ++ vs → LeadsTo cs ds rest all → Puts n ds es us → LeadsTo cs es vs all
  leads_to_next cs ds es us vs rest all e l p =
      let a : length cs ≤ length ds = l.longer in
      let b : length ds ≤ length es = p.grows.longer in
      record {
        cells = p.grows.cells;
        longer = omega (arith, a, b);
        onward = λ after r s. l.onward after r (subst (λ z. Solves n ds after z r) (sym e) (solves_then ds es after us vs r p s));
      }

  pub leads_to_error : (cs ds es fs : List Cell) (us vs rest all : List CellUnit) (e : Unsolved) → rest ≡ us ++ vs → LeadsTo cs ds rest all → Solves n ds es us (Err e) → Solves n cs fs all (Err e)
  leads_to_error cs ds es fs us vs rest all e q l s =
      l.onward fs (Err e) (subst (λ z. Solves n ds fs z (Err e)) (sym q) (stops ds es fs us vs e s))

  pub leads_to_end : (cs ds : List Cell) (rest all : List CellUnit) (x : ⊤) → rest ≡ [] → n ≤ length ds → LeadsTo cs ds rest all → Solves n cs ds all (Ok x)
  leads_to_end cs ds rest all x e h l = l.onward ds (Ok x) (subst (λ z. Solves n ds ds z (Ok x)) (sym e) (puts_none ds l.cells h))

-- the same in other words
pub solves_as : (n m : ℕ) (cs bs ds : List Cell) (us vs : List CellUnit) (r : Result ⊤ Unsolved) → m ≡ n → bs ≡ cs → us ≡ vs → Solves m bs ds us r → Solves n cs ds vs r
solves_as n m cs bs ds us vs r e f g s =
    subst (λ z. Solves z cs ds vs r) e (subst (λ z. Solves m z ds vs r) f (subst (λ z. Solves m bs ds z r) g s))

pub puts_as : (n m : ℕ) (cs bs ds : List Cell) (us vs : List CellUnit) → m ≡ n → bs ≡ cs → us ≡ vs → Puts m bs ds us → Puts n cs ds vs
puts_as n m cs bs ds us vs e f g s =
    subst (λ z. Puts z cs ds vs) e (subst (λ z. Puts m z ds vs) f (subst (λ z. Puts m bs ds z) g s))
