mod WakeViews
