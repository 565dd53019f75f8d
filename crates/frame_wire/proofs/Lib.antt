mod KindLaws
mod RefusalLaws
mod StoreLaws
mod FrameLaws
mod LookLaws
mod Taking
mod StreamLaws
