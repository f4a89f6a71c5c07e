-- What follows from what a clause says of an `Ok`.
use Rattle.std.proofs.Common.{Result, Ok, Err, IfOk, OnOk}

pub if_ok_more : {X E : Type 0} (result : Result X E) (P Q : X → Type 0) → ((x : X) → P x → Q x) → IfOk result P → IfOk result Q
if_ok_more (Ok x) P Q more holds = more x holds
if_ok_more (Err e) P Q more holds = tt

pub if_ok_with : {X E : Type 0} (result : Result X E) (P Q : X → Type 0) (R : Type 0) → ((x : X) → P x → R → Q x) → IfOk result P → OnOk result R
    → IfOk result Q
if_ok_with (Ok x) P Q R more holds also = more x holds also
if_ok_with (Err e) P Q R more holds also = tt

pub on_ok : {X E : Type 0} (result : Result X E) (P : Type 0) → P → OnOk result P
on_ok (Ok x) P holds = holds
on_ok (Err e) P holds = tt

pub on_ok_both : {X E : Type 0} (result : Result X E) (P Q R : Type 0) → (P → Q → R) → OnOk result P → OnOk result Q → OnOk result R
on_ok_both (Ok x) P Q R more p q = more p q
on_ok_both (Err e) P Q R more p q = tt
