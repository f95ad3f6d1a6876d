-- Known bytes that interrupted calls left as they were.
use Rattle.std.proofs.Common.{◌∙◌, refl, subst, ℕ, List, Option, None, Some, Result, Ok, Err}
use Rattle.std.specs.Io.KnownBytes.{Keeps, Consumes, Appends, ReadConsumes, WriteAppends}

pub keeps_same : (a : Option (List ℕ)) → Keeps a a
keeps_same None = tt
keeps_same (Some xs) = refl

pub keeps_twice : (a b c : Option (List ℕ)) → Keeps a b → Keeps b c → Keeps a c
keeps_twice None b c h k = tt
keeps_twice (Some xs) None c h k = absurd h
keeps_twice (Some xs) (Some ys) None h k = absurd k
keeps_twice (Some xs) (Some ys) (Some zs) h k = k ∙ h

consumes_later : (a b c : Option (List ℕ)) (bytes : List ℕ) → Keeps a b → Consumes b c bytes → Consumes a c bytes
consumes_later None b c bytes h k = tt
consumes_later (Some xs) None c bytes h k = absurd h
consumes_later (Some xs) (Some ys) c bytes h k = subst (λ zs. Consumes (Some zs) c bytes) h k

appends_later : (a b c : Option (List ℕ)) (bytes : List ℕ) → Keeps a b → Appends b c bytes → Appends a c bytes
appends_later None b c bytes h k = tt
appends_later (Some xs) None c bytes h k = absurd h
appends_later (Some xs) (Some ys) c bytes h k = subst (λ zs. Appends (Some zs) c bytes) h k

-- a read after reads that took nothing
pub reads_later : {E : Type 0} (a b c : Option (List ℕ)) (r : Result ℕ E) (buf : List ℕ) → Keeps a b → ReadConsumes b c r buf → ReadConsumes a c r buf
reads_later a b c (Ok n) buf h k = (consumes_later a b c _ h k.0, k.1)
reads_later a b c (Err e) buf h k = keeps_twice a b c h k

-- a write after writes that added nothing
pub writes_later : {E : Type 0} (a b c : Option (List ℕ)) (r : Result ℕ E) (bytes : List ℕ) → Keeps a b → WriteAppends b c r bytes → WriteAppends a c r bytes
writes_later a b c (Ok n) bytes h k = appends_later a b c _ h k
writes_later a b c (Err e) bytes h k = keeps_twice a b c h k
