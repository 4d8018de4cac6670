-- How tight a contract is (01, "How tight the statements are"): it determines the result, and the final contents of every lent buffer.
use Rattle.std.specs.Prelude.{ℕ, ◌≡◌, List}
use contract.Lifetimes.{Lfts}
use borrow.Fn.Kinds.{ParamKind, ResultKind, Out, Dens, res_t, ended_of}
use denote.Triple.Clauses.{AtExit}

-- any two results that a contract's reading allows of the same arguments are equal, whatever else is at exit
abbrev pub OneResult : (n : ℕ) (ps : List (ParamKind n)) (r : ResultKind n) → Out n ps r → Type 0
OneResult n ps r Post =
    (κs : Lfts n) (a : Dens κs ps) (z z' : (res_t r κs).Denot) (e e' : AtExit (ended_of n ps r) κs) → Post κs a z e → Post κs a z' e' → z ≡ z'

-- the same for something of what is at exit: the contents of a lent buffer
abbrev pub OneAtExit : (n : ℕ) (ps : List (ParamKind n)) (r : ResultKind n) → Out n ps r → ((κs : Lfts n) → AtExit (ended_of n ps r) κs → List ℕ) → Type 0
OneAtExit n ps r Post contents =
    (κs : Lfts n) (a : Dens κs ps) (z z' : (res_t r κs).Denot) (e e' : AtExit (ended_of n ps r) κs) → Post κs a z e → Post κs a z' e'
    → contents κs e ≡ contents κs e'
