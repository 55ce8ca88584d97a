-- What a clause sees of a `Fused` (this library's own).
use Rattle.std.specs.Prelude.{◌≡◌, ◌-◌, ◌≤◌, ℕ, List, Option, Result, IfOk, IsErr}
use Rattle.acl_perm.specs.Devices.{fused_remaining}
use Rattle.acl_perm.specs.declared.fused.Fused.{Fused}

-- the reader or writer
abbrev pub fused_inner : {T : Type 0} → Fused T → T
fused_inner f = f.inner

-- how many more calls pass
abbrev pub fused_calls : {T : Type 0} → Fused T → ℕ
fused_calls f = f.calls

-- how many bytes a call passes at most
abbrev pub fused_step : {T : Type 0} → Fused T → ℕ
fused_step f = f.step

-- the bytes that are left to read, given what the reader has left; not known if a call passes no byte
abbrev pub left_through : {T : Type 0} → (T → Option (List ℕ)) → Fused T → Option (List ℕ)
left_through left f = fused_remaining (fused_step f) (left (fused_inner f))

-- the effect of a call on a device, before and after
pub record TakesCall {T E : Type 0} (device device_after : Fused T) (r : Result ℕ E) : Type 0 where
  -- if no call is left, the call fails and changes nothing
  pub spent : fused_calls device ≡ 0 → IsErr r × (device_after ≡ device)
  -- the call is counted
  pub counted : fused_calls device_after ≡ fused_calls device - 1
  -- a call passes at most as many bytes as the step
  pub short : IfOk r (λ n. n ≤ fused_step device)
  -- the step stays as it was
  pub step : fused_step device_after ≡ fused_step device
