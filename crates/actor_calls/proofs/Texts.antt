-- The texts of the requests that are made.
use Rattle.std.proofs.Common.{◌≡◌, refl}
use Rattle.std.specs.Option.{option_copied}
use Rattle.actor_names.specs.declared.address.Address.{Address}
use Rattle.app_texts.specs.declared.calls.MethodCall.{MethodCall}
use Rattle.app_texts.specs.declared.peer.PeerCall.{PeerCall}
use Rattle.app_texts.specs.Texts.{invoke_text, peer_text}
use Rattle.actor_calls.specs.Texts.{call_text, forward_text}

pub call_text_of : (app : Address) (c : MethodCall) → invoke_text app c ≡ call_text app c.actor.now c.method.now (option_copied c.chain) c.request.now
unfolding invoke_text call_text
call_text_of app c = refl

pub forward_text_of : (at : Address) (c : PeerCall) → peer_text at c ≡ forward_text at c.request.now c.least c.name.now
unfolding peer_text forward_text
forward_text_of at c = refl
