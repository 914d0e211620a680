-- Pieces of what an actor does.
use Rattle.std.proofs.Common.{◌≡◌, List, [], ◌∷◌, ◌++◌, Option, Some, sym, ap, subst, ◌∙◌, append_assoc}
use Rattle.std.proofs.lemmas.Option.{none-some, same_Some}
use Rattle.step_law.specs.declared.entry.Entry.{Entry}
use Rattle.record_law.specs.declared.shape.Shape.{Shape}
use Rattle.record_law.specs.Message.{Message, History}
use Rattle.record_law.specs.Task.{Task, Move}
use Rattle.record_law.specs.Task.Move.{refuses, passes, goes}
use Rattle.record_law.specs.Protocol.{Follows, move, then_left, follow, left_in, left_after}
use Rattle.record_law.specs.Fits.{Piece, PiecesCompose, PieceHoldsBefore, PieceFits}

pub pieces_compose : PiecesCompose
pieces_compose s h tasks between left [] second p q = subst (λ t. Piece s h t second left) (sym p) q
pieces_compose s h tasks between left (x ∷ first) second p q =
    (p.0, p.1, pieces_compose s (x ∷ h) p.0 between left first second p.2 q)

-- what follows from a list of tasks follows from more of them
abbrev given : Message → List Task → Option Follows
given message left = Some (record { about = message; left = left })

follow_more : (s : Shape) (h : History) (taken about : Message) (tasks left later : List Task) (e : Entry)
    → follow s h taken tasks e ≡ given about left → follow s h taken (tasks ++ later) e ≡ given about (left ++ later)
follow_more s h taken about [] left later e k = absurd (none-some (record { about = about; left = left }) k)
follow_more s h taken about (task ∷ tasks) left later e k = by (move s h taken task e) (follow_more s h taken about tasks left later e) k
  where
    by : (m : Move) → (follow s h taken tasks e ≡ given about left → follow s h taken (tasks ++ later) e ≡ given about (left ++ later))
        → then_left m tasks (follow s h taken tasks e) ≡ given about left
        → then_left m (tasks ++ later) (follow s h taken (tasks ++ later) e) ≡ given about (left ++ later)
    by refuses rest k' = absurd (none-some (record { about = about; left = left }) k')
    by passes rest k' = rest k'
    by (goes message first) rest k' =
        let same = same_Some (record { about = message; left = first ++ tasks }) (record { about = about; left = left }) k' in
        let left_same : first ++ (tasks ++ later) ≡ left ++ later = sym (append_assoc first tasks later) ∙ ap (λ (it : Follows). it.left ++ later) same in
        λ i. given ((ap (λ (it : Follows). it.about) same) i) (left_same i)

pub piece_holds_before : PieceHoldsBefore
piece_holds_before s h tasks left later [] p = ap (λ t. t ++ later) p
piece_holds_before s h tasks left later (x ∷ steps) p =
    (p.0 ++ later, follow_more s h x.about x.about tasks p.0 later x.entry p.1, piece_holds_before s (x ∷ h) p.0 left later steps p.2)

pub piece_fits : PieceFits
piece_fits s actor h left [] fits p = (fits, p)
piece_fits s actor h left (x ∷ steps) fits p =
    let now : left_after s actor (x ∷ h) ≡ p.0 = ap left_in p.1 in
    piece_fits s actor (x ∷ h) left steps ((p.0, p.1), fits) (subst (λ t. Piece s (x ∷ h) t steps left) (sym now) p.2)
