-- What is decided of machines, as what is decided of nodes and of programs.
use Rattle.std.proofs.Common.{◌≡◌, ℕ, zero, suc, ◌+◌, ◌<◌, ◌≤◌, ◌⊎◌, inl, inr, Bool, true, false, ◌||◌, List, [], ◌∷◌, ◌++◌, length, take, drop, get_or, Result, Ok, Err, IfOk, refl, sym, ap, ◌∙◌, subst, arith, true≢false}
use Rattle.std.specs.Prelude.{IsTrue, MatchOption, None, Option, Some, is_some, option_map}
use Rattle.std.proofs.Math.Seq.{split_at, take-suc}
use Rattle.std.proofs.lemmas.List.Elements.{All-push}
use Rattle.hp_base.specs.Limits.{most}
use Rattle.hp_base.specs.declared.limit.What.TheVariants.{Text}
use Rattle.hp_boolx.specs.Machine.{Machine}
use Rattle.hp_cert.specs.Checked.{Proves}
use Rattle.hp_cert.specs.declared.checking.Proved.TheVariants.{Lose}
use Rattle.hp_cert.specs.Certtext.Certificates.{Certificate}
use Rattle.hp_cert.specs.Certtext.Texts.{cert_text}
use Rattle.hp_abstract.specs.Machines.{IsMachineOf}
use Rattle.hp_tree.specs.declared.program.Item.{Item}
use Rattle.hp_tree.specs.declared.program.Item.TheVariants.{TypeItem, NodeItem}
use Rattle.hp_tree.specs.Programs.{Node}
use Rattle.hp_verdicts.specs.Decided.{AreKept, IsProof, IsShownForced, KeptItem, Refuses, RefusesMachine, RefusesContract, RefusesProof, ShowsLoss, has_contract, is_wide_contract, own_contract}
use Rattle.hp_verdicts.specs.Found.{IsFound, IsOf, IsRefuted, RefusesItem}
use Rattle.hp_verdicts.specs.TheCertificate.{IsTheCertificate}
use Rattle.hp_verdicts.specs.declared.error.ContractErr.{ContractErr}
use Rattle.hp_verdicts.specs.declared.error.ContractErr.TheVariants as error

module _ (program : List Item) (n : Node) where
  -- why there is no machine, of a contract that is decided,
  pub machine_refuses : (e : ContractErr) → RefusesMachine program n e → RefusesContract program n e
  machine_refuses (error.Assume node span) h = h
  machine_refuses (error.Limit node limit) h = h
  machine_refuses (error.Forced node instants cert) h = absurd h
  machine_refuses error.TooLong h = absurd h
  machine_refuses error.NotBuilt h = h
  machine_refuses error.OutOfMemory h = tt

  -- and of one that is proved
  pub machine_refuses_proof : (e : ContractErr) → RefusesMachine program n e → RefusesProof program n e
  machine_refuses_proof (error.Assume node span) h = h
  machine_refuses_proof (error.Limit node limit) h = h
  machine_refuses_proof (error.Forced node instants cert) h = absurd h
  machine_refuses_proof error.TooLong h = absurd h
  machine_refuses_proof error.NotBuilt h = h
  machine_refuses_proof error.OutOfMemory h = tt

  module _ (m : Machine) (is : IsMachineOf program n m) where
    pub shown_forced : (wide : Bool) → wide ≡ is_wide_contract n.contract → (instants : ℕ) (text : Option (List ℕ)) → IsRefuted m wide instants text → IsShownForced program n instants text
    shown_forced wide same instants text h = record {
      forced = record { machine = m; is_machine = is; forced = h.forced; least = h.least };
      shown = subst (λ (b : Bool). ShowsLoss m b instants text) same h.shown;
    }

    -- the certificate of what is found
    found_proof : (wide : Bool) → wide ≡ is_wide_contract n.contract → (c : Certificate) → IsFound m wide c → (text : List ℕ) → text ≡ cert_text c → length text ≤ most Text → IsProof program n text
    found_proof wide same c h text is_text within = record {
      machine = m;
      is_machine = is;
      certified =
          record {
            certificate = c;
            is_the = subst (λ (b : Bool). IsTheCertificate m b c) same (h.is_of).is_the;
            text_is = is_text;
            within = within;
            proves = (h.is_of).proves;
          };
      verdict = h.verdict;
    }

    pub proof_answer : {T : Type 0} (bytes : T → List ℕ) (wide : Bool) → wide ≡ is_wide_contract n.contract → (c : Certificate) → IsFound m wide c → (r : Result T ContractErr)
        → IfOk r (λ t. bytes t ≡ cert_text c) → IfOk r (λ t. length (bytes t) ≤ most Text) → IfOk r (λ t. IsProof program n (bytes t))
    proof_answer bytes wide same c h (Ok t) is_text within = found_proof wide same c h (bytes t) is_text within
    proof_answer bytes wide same c h (Err e) is_text within = tt

    pub found_refuses : IsTrue (is_some n.contract) → (wide : Bool) → wide ≡ is_wide_contract n.contract → (c : Certificate) → IsFound m wide c → (e : ContractErr) → (e ≡ error.OutOfMemory) ⊎ ((e ≡ error.TooLong) × (most Text < length (cert_text c))) → RefusesProof program n e
    found_refuses some wide same c h e (inl memory) = subst (RefusesProof program n) (sym memory) tt
    found_refuses some wide same c h e (inr (long, longer)) =
        subst (RefusesProof program n) (sym long) (some, (m, is, record { certificate = c; is_the = subst (λ (b : Bool). IsTheCertificate m b c) same (h.is_of).is_the; longer = longer }))

-- ---- the text of what is lost

-- it is shown, or it is too long
module _ {T : Type 0} (bytes : T → List ℕ) (m : Machine) (wide : Bool) (instants : ℕ) (c : Certificate) (is : IsOf m wide (Lose instants) c) where
  pub shows_loss : (text : Option T) → MatchOption text (most Text < length (cert_text c)) (λ t. (bytes t ≡ cert_text c) × (length (bytes t) ≤ most Text)) → ShowsLoss m wide instants (option_map bytes text)
  shows_loss None h = record { certificate = c; is_the = is.is_the; longer = h }
  shows_loss (Some text) h = record {
    certified = record { certificate = c; is_the = is.is_the; text_is = h.0; within = h.1; proves = subst (Proves m c) (sym is.says) is.proves };
    verdict = is.says;
  }

-- ---- items in order

-- one more is kept
pub kept_next : (program items : List Item) (i : ℕ) (x : Item) → i < length items → x ≡ get_or items i x → AreKept program (take i items) → KeptItem program x → AreKept program (take (i + 1) items)
kept_next program items i x within at before is =
    let next : take (suc i) items ≡ take i items ++ x ∷ [] = take-suc items i x within ∙ ap (λ (y : Item). take i items ++ y ∷ []) (sym at) in
    let one : i + 1 ≡ suc i = omega arith in
    subst (AreKept program) (sym (ap (λ n. take n items) one ∙ next)) (All-push (KeptItem program) (take i items) x before is)

-- the first that is refused
pub refused_at : (program : List Item) (i : ℕ) (x : Item) → i < length program → x ≡ get_or program i x → AreKept program (take i program) → (e : ContractErr) → RefusesItem program x e → Refuses program e
refused_at program i x within at before e refused = by x (split_at program i x within ∙ ap (λ (y : Item). take i program ++ y ∷ drop (suc i) program) (sym at)) refused
  where
    by : (y : Item) → program ≡ take i program ++ y ∷ drop (suc i) program → RefusesItem program y e → Refuses program e
    by (TypeItem t) stands h = absurd h
    by (NodeItem n) stands h = record { before = take i program; node = n; behind = drop (suc i) program; stands = stands; kept = before; refused = h }

neither : (a b : Bool) → (a || b) ≡ false → (a ≡ false) × (b ≡ false)
neither true b e = absurd (true≢false e)
neither false b e = (refl, e)

-- where no node has a contract, no item is one
pub none_own : (program : List Item) → has_contract program ≡ false → (i : ℕ) (d : Item) → i < length program → own_contract (get_or program i d) ≡ false
none_own [] none i d within = absurd (omega (arith, within))
none_own (x ∷ program) none zero d within = (neither (own_contract x) (has_contract program) none).0
none_own (x ∷ program) none (suc i) d within = none_own program (neither (own_contract x) (has_contract program) none).1 i d (omega (arith, within))
